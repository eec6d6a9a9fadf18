-- No row before the place that is looked at has the number.
use Rattle.std.proofs.Common.{◌≡◌, ◌∙◌, true, false, sym, arith}
use Rattle.solid_model.specs.Tables.{row_reads}
use Rattle.solid_model.proofs.users.first_reader.Goals as goal
use Rattle.solid_model.proofs.Readers.{unread-more, read-is}

pub loop-place-init : goal.loop-place-init
loop-place-init c = record { unread = λ place user later before e. absurd (omega (arith, later, before)) }

pub returns-then-reads-clause-some : goal.returns-then-reads-clause-some
returns-then-reads-clause-some c = (
  λ user e.
      read-is c.args.numbers.now.items c.args.rows.now.items c.loop-place.place c.index.result.now user c.index-in-loop-place.result.now c.index.ensures c.index-in-loop-place.ensures
      (c.requires.rows c.loop-place.place user e) e
      (λ row. row_reads c.args.number row ≡ true) (sym c.reads.ensures ∙ c.if-reads.true),
  c.loop-place.auto.place,
  c.loop-place-test.true,
  c.loop-place.invariant.unread,
)

pub loop-place-preserved : goal.loop-place-preserved
loop-place-preserved c = record {
  unread = unread-more c.args.numbers.now.items c.args.rows.now.items c.args.number c.args.first c.loop-place.place c.loop-place.invariant.unread
      (λ user e.
      read-is c.args.numbers.now.items c.args.rows.now.items c.loop-place.place c.index.result.now user c.index-in-loop-place.result.now c.index.ensures c.index-in-loop-place.ensures
      (c.requires.rows c.loop-place.place user e) e
      (λ row. row_reads c.args.number row ≡ false) (sym c.reads.ensures ∙ c.if-reads.false));
}

pub returns-clause-none : goal.returns-clause-none
returns-clause-none c = λ place user later before e. c.loop-place.invariant.unread place user later (omega (arith, before, c.loop-place-test.false)) e
