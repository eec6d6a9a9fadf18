-- What always holds of grids whose cells are looked into by boxes.
use Rattle.box_chains.specs.Laws.{Lawful}
use Rattle.oct_descent.specs.GridLaws.{GridsHold, GrowthHolds, HalvesHold, HandingHolds, LooksHold, SizesHold, TellingHolds, WholeHolds, WorkAddsUp}
use Rattle.oct_descent.specs.Kinds.{BordersHold, GridKind}
use Rattle.oct_descent.proofs.Bounds.{points_below, spans_below, whole-visit}
use Rattle.oct_descent.proofs.Halves.{begun-paid, first-charged, half-grows, half-shorter, half-visit, longer-in_root, next-charged, next-paid, next-settled, next-worked, part-covers, turned-begun, turned-in_root, turned-paid, turned-part, turned-settled, turned-some}
use Rattle.oct_descent.proofs.Looks.{below-charged, below-paid, cell-below, cell-charged, cell-paid, closed-settled, closed-worked, halves-charged, halves-paid, halves-worked, handed-grows, handed-right, handed-settled, handed-tape, look-charged, look-paid, sides-open, trace-charged}
use Rattle.oct_descent.proofs.Sizes.{size-from, size-is, size-then}
use Rattle.oct_descent.proofs.TableLaws.{charges-more, charges-most, charges-none, grows-none, grows-then, pays-most, pays-none, right-grows, same-is, same-self, unmet-one}
use Rattle.oct_descent.proofs.Together.{among-stays, closed-told, list-stays, more-samples, opened-told, step-told}
use Rattle.oct_descent.proofs.Whole.{whole-counted, whole-paid, whole-right, whole-settled}

sizes_hold : SizesHold
sizes_hold = record { is = size-is; from = size-from; chain = size-then }

growth_holds : GrowthHolds
growth_holds = record { none = grows-none; chain = grows-then; right = right-grows }

work_adds_up : Lawful → WorkAddsUp
work_adds_up laws = record {
  free = charges-none laws;
  most = charges-most;
  more = charges-more laws;
  unpaid = pays-none laws;
  unpaid_most = pays-most;
  one = unmet-one laws;
  same = same-is;
  itself = same-self;
}

telling_holds : (k : GridKind) → TellingHolds k
telling_holds k = record {
  step = step-told k;
  opened = opened-told k;
  closed = closed-told k;
  in_root = longer-in_root k;
  stays = list-stays;
  among = among-stays;
  samples_stay = more-samples;
}

looks_hold : Lawful → (k : GridKind) → BordersHold k → LooksHold k
looks_hold laws k holds = record {
  settled = closed-settled laws k holds;
  idle = closed-worked k;
  traced = trace-charged laws;
  looked = look-charged laws;
  unpaid = look-paid;
  sides = sides-open laws k holds;
  cell_charged = cell-charged laws k;
  cell_paid = cell-paid laws k;
  below_charged = below-charged laws k;
  below_paid = below-paid laws;
  cell_below = cell-below laws;
}

handing_holds : Lawful → (k : GridKind) → BordersHold k → HandingHolds k
handing_holds laws k holds = record {
  tape = handed-tape laws;
  grows = handed-grows laws k;
  right = handed-right laws k;
  settled = handed-settled laws k holds;
  charged = halves-charged laws k;
  paid = halves-paid laws k;
  worked = halves-worked laws k;
}

halves_hold : Lawful → (k : GridKind) → HalvesHold k
halves_hold laws k = record {
  part = turned-part laws;
  shorter = half-shorter laws;
  visits = half-visit laws;
  covers = part-covers;
  in_root = turned-in_root laws;
  begun_charged = turned-begun laws k;
  begun_paid = begun-paid;
  first = first-charged laws k;
  grows = half-grows k;
  next_settled = next-settled k;
  next_worked = next-worked k;
  next_charged = next-charged laws k;
  next_paid = next-paid laws k;
  some_charged = turned-some laws k;
  paid = turned-paid;
  settled = turned-settled laws;
}

whole_holds : Lawful → (k : GridKind) → WholeHolds k
whole_holds laws k = record {
  visits = whole-visit;
  counted = whole-counted laws k;
  paid = whole-paid laws k;
  right = whole-right k;
  settled = whole-settled k;
  points_below = points_below laws k;
  spans_below = spans_below laws k;
}

pub grids_hold_is : Lawful → GridsHold
grids_hold_is laws k holds = record {
  sizes = sizes_hold;
  growth = growth_holds;
  work = work_adds_up laws;
  telling = telling_holds k;
  looks = looks_hold laws k holds;
  handing = handing_holds laws k holds;
  halves = halves_hold laws k;
  whole = whole_holds laws k;
}
