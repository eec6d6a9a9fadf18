-- What is told of all tokens is what is told of those that are left, with what is counted so far.
use Rattle.std.proofs.Common.{◌≡◌, ◌≤◌, None, length}
use Rattle.solid_lang.specs.Judged.{judged}
use Rattle.solid_lang.specs.NumberedTokens.{numbered_tokens}
use Rattle.solid_lang.specs.Wants.{whole_solid}
use Rattle.solid_lang.proofs.judgement.count_clauses.Given as goal

abbrev pub invariant-loop-token : goal.invariant-loop-token
invariant-loop-token l = record {
  same : judged 3 None whole_solid (numbered_tokens l.text) ≡ judged l.clauses l.last l.wants l.tokens;
  few : l.clauses ≤ 65536;
}

abbrev pub decreases-loop-token : goal.decreases-loop-token
decreases-loop-token l = length l.tokens
