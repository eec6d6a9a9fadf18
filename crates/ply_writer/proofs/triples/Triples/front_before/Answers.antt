-- The digits without the zeros in front of them.
use Rattle.std.proofs.Common.{◌≡◌, List, ℕ, ap, drop, arith, ◌∙◌}
use Rattle.std.specs.Prelude.{get_or}
use Rattle.ply_writer.specs.Triples.{triple_text, zeros_before}
use Rattle.ply_writer.proofs.TripleLaws.{behind, own_pieces}
use Rattle.ply_writer.proofs.triples.Triples.front_before.Goals as goal

pub returns-clause-before : goal.returns-clause-before
returns-clause-before c =
    let zeros : c.from.result ≡ zeros_before c.args.number =
    c.from.ensures ∙ ap (λ (e : List ℕ). get_or e 0 0) (c.index.ensures ∙ c.requires.triples.each c.args.number _ c.requires.number)
    in
    omega (arith, zeros)

pub returns-clause-written : goal.returns-clause-written
returns-clause-written c =
    let zeros : c.from.result ≡ zeros_before c.args.number =
    c.from.ensures ∙ ap (λ (e : List ℕ). get_or e 0 0) (c.index.ensures ∙ c.requires.triples.each c.args.number _ c.requires.number)
    in
    rw zeros (
    behind (zeros_before c.args.number) c.triple_before-start.result c.triple_before-start.new.line (triple_text c.args.number) (drop c.args.end c.args.line.now) c.triple_before-start.ensures.written
    ∙ own_pieces c.args.number (drop c.args.end c.args.line.now) c.requires.number
    )
