-- Numbering one more cell.
use Rattle.std.proofs.Common.{◌≡◌, ℕ, ◌+◌, ◌*◌, ◌/◌, ◌%◌, ◌^◌, ◌<◌, ◌≤◌, List, [], ◌∷◌, ◌++◌, ap, sym, ◌∙◌, subst, inl, inr, arith}
use Rattle.std.specs.Prelude.{◌⊎◌, flat_map, take, set, get_or, length}
use Rattle.std.specs.List.{range_with_len}
use Rattle.std.proofs.lemmas.Bool.{cases_lt, cases_order}
use Rattle.std.proofs.lemmas.List.{append-nil, get_or_default, get_or-set_other, get_or-set_same, length-append, length-map, length-set, length-take-le, take_more}
use Rattle.std.proofs.lemmas.List.Concat.{flat_map-append}
use Rattle.std.proofs.lemmas.List.Elements.{All-same, All-set}
use Rattle.std.proofs.lemmas.List.Sums.{count_by-le-length, length-filter}
use Rattle.std.proofs.lemmas.Nat.{div-mul-add, mod-mul-add}
use Rattle.kuhn_cells.specs.declared.cell_list.CellValues.{CellValues}
use Rattle.kuhn_cells.specs.declared.grid_size.GridSize.{GridSize}
use Rattle.kuhn_cells.specs.Arrangement.{differ}
use Rattle.kuhn_cells.specs.Cells.{directions_of, edges_of, has_inside, lowest_corner}
use Rattle.kuhn_cells.specs.Laws.{IsCellBefore}
use Rattle.kuhn_cells.specs.Triangles.{edge_from}
use Rattle.tetra_mesh.specs.declared.entry.Entry.{Entry}
use Rattle.tetra_mesh.specs.declared.numbering.Numbering.{Numbering}
use Rattle.tetra_mesh.specs.Numbering.{AreCells, IsIn, IsNumbered, IsSmall, LiesBelow, ReachesAbove, entry_after, mask_of, slot_of}
use Rattle.tetra_mesh.proofs.SideLaws.{NumbersCell}

-- ---- how many vertices there are

seven : (c : CellValues) → length (directions_of c) ≤ 7
unfolding directions_of
seven c =
    let q = λ (d : ℕ). differ (has_inside c 0) (has_inside c d) in
    rw (length-filter q (range_with_len 1 7)) (count_by-le-length q (range_with_len 1 7))

edges_few : (cells : List CellValues) → length (flat_map edges_of cells) ≤ 7 * length cells
edges_few [] = omega arith
edges_few (c ∷ cells) =
    omega (arith, length-append (edges_of c) (flat_map edges_of cells), length-map (directions_of c) (edge_from (lowest_corner c)), seven c, edges_few cells)

pub room_left : (cells : List CellValues) (n : GridSize) (s : Numbering) → AreCells n cells → IsNumbered cells n s → s.vertices < 2 ^ 31
room_left cells n s are is =
    let e = is.vertices in
    let few = are.few in
    let some = is.some in
    omega (arith, e, edges_few (take s.ahead cells), length-take-le s.ahead cells some, few, some)

-- ---- slots

-- different places of two layers have different slots
pub slots_apart : (n : GridSize) (b c : CellValues) → IsIn n b → IsIn n c → IsCellBefore b c → c.z ≤ b.z + 1 → slot_of n b.x b.y b.z ≡ slot_of n c.x c.y c.z → ⊥
slots_apart n b c is in_c before near same =
    let x : b.x ≡ c.x = sym (mod-mul-add (b.z % 2 * n.y + b.y) n.x b.x is.x) ∙ ap (λ s. s % n.x) same ∙ mod-mul-add (c.z % 2 * n.y + c.y) n.x c.x in_c.x in
    let row : b.z % 2 * n.y + b.y ≡ c.z % 2 * n.y + c.y = sym (div-mul-add (b.z % 2 * n.y + b.y) n.x b.x is.x) ∙ ap (λ s. s / n.x) same ∙ div-mul-add (c.z % 2 * n.y + c.y) n.x c.x in_c.x in
    let y : b.y ≡ c.y = sym (mod-mul-add (b.z % 2) n.y b.y is.y) ∙ ap (λ s. s % n.y) row ∙ mod-mul-add (c.z % 2) n.y c.y in_c.y in
    let z : b.z % 2 ≡ c.z % 2 = sym (div-mul-add (b.z % 2) n.y b.y is.y) ∙ ap (λ s. s / n.y) row ∙ div-mul-add (c.z % 2) n.y c.y in_c.y in
    by x y z before
  where
    last : b.x ≡ c.x → (b.y ≡ c.y) × (b.x < c.x) → ⊥
    last x h = omega (arith, x, h.1)

    rows : b.x ≡ c.x → b.y ≡ c.y → (b.y < c.y) ⊎ ((b.y ≡ c.y) × (b.x < c.x)) → ⊥
    rows x y (inl less) = omega (arith, y, less)
    rows x y (inr more) = last x more

    by : b.x ≡ c.x → b.y ≡ c.y → b.z % 2 ≡ c.z % 2 → IsCellBefore b c → ⊥
    by x y z (inl less) = omega (arith, z, less, near)
    by x y z (inr rest) = rows x y rest.1

pub not_above : (b c : CellValues) → IsCellBefore b c → b.z ≤ c.z
not_above b c (inl less) = omega (arith, less)
not_above b c (inr rest) = let e = rest.0 in omega (arith, e)

pub slot_within : (n : GridSize) (x y z : ℕ) → x < n.x → y < n.y → slot_of n x y z < 2 * n.x * n.y
slot_within n x y z fx fy = grind arith

-- ---- one more cell

abbrev entry_kept : Numbering → CellValues → Entry
entry_kept s c = record { base = s.vertices; mask = mask_of c }

kept_last : (cells : List CellValues) (n : GridSize) (old new : Numbering) (c : CellValues) (e : Entry) → AreCells n cells → IsNumbered cells n old → IsIn n c → NumbersCell c old new → get_or new.slots.items (slot_of n c.x c.y c.z) e ≡ entry_after (take old.ahead cells) c
kept_last cells n old new c e are is in_c step =
    let slot = slot_of old.n c.x c.y c.z in
    let entry = entry_kept old c in
    let make : ℕ → Entry = λ b. record { base = b; mask = mask_of c } in
    let place : slot_of n c.x c.y c.z ≡ slot = ap (λ m. slot_of m c.x c.y c.z) (sym is.width) in
    let bound = slot_within n c.x c.y c.z in_c.x in_c.y in
    let within : slot < length old.slots.items = let room = is.room in omega (arith, room, bound, place) in
    ap (λ l. get_or l (slot_of n c.x c.y c.z) e) step.slots
    ∙ ap (λ s. get_or (set old.slots.items slot entry) s e) place
    ∙ get_or-set_same old.slots.items slot entry e within
    ∙ ap make is.vertices

kept_on : (cells : List CellValues) (n : GridSize) (old new : Numbering) (c : CellValues) → AreCells n cells → IsNumbered cells n old → old.ahead < length cells → c ≡ get_or cells old.ahead c → NumbersCell c old new → (j : ℕ) (d : CellValues) (e : Entry) → (j < old.ahead) ⊎ (old.ahead ≤ j) → j < new.ahead → ((k : ℕ) → k < new.ahead → (get_or cells k d).z ≤ (get_or cells j d).z + 1) → let b = get_or cells j d in get_or new.slots.items (slot_of n b.x b.y b.z) e ≡ entry_after (take j cells) b
kept_on cells n old new c are is more here step j d e (inl earlier) less near =
    let a = old.ahead in
    let b = get_or cells j d in
    let ahead = step.ahead in
    let slot = slot_of old.n c.x c.y c.z in
    let next : get_or cells a d ≡ c = get_or_default cells a d c more ∙ sym here in
    let P : CellValues → Type 0 = λ x. IsCellBefore b x in
    let Q : CellValues → Type 0 = λ x. IsIn n x in
    let R : CellValues → Type 0 = λ x. x.z ≤ b.z + 1 in
    let before = subst P next (are.rise j a d earlier more) in
    let in_c = subst Q next (are.within a d more) in
    let close = subst R next (near a (omega (arith, ahead))) in
    let width = ap (λ m. slot_of m c.x c.y c.z) (sym is.width) in
    let apart : slot_of n b.x b.y b.z ≡ slot → ⊥ = λ same. slots_apart n b c (are.within j d (omega (arith, earlier, more))) in_c before close (same ∙ sym width) in
    ap (λ l. get_or l (slot_of n b.x b.y b.z) e) step.slots
    ∙ get_or-set_other old.slots.items slot (slot_of n b.x b.y b.z) (entry_kept old c) e apart
    ∙ is.kept j d e earlier (λ k less. near k (omega (arith, less, ahead)))
kept_on cells n old new c are is more here step j d e (inr late) less near =
    let a = old.ahead in
    let ahead = step.ahead in
    let same : a ≡ j = omega (arith, late, less, ahead) in
    let next : get_or cells a d ≡ c = get_or_default cells a d c more ∙ sym here in
    let Q : CellValues → Type 0 = λ x. IsIn n x in
    let in_c = subst Q next (are.within a d more) in
    let P : CellValues → Type 0 = λ x. get_or new.slots.items (slot_of n x.x x.y x.z) e ≡ entry_after (take a cells) x in
    let R : ℕ → Type 0 = λ i. let b = get_or cells i d in get_or new.slots.items (slot_of n b.x b.y b.z) e ≡ entry_after (take i cells) b in
    subst R same (subst P (sym next) (kept_last cells n old new c e are is in_c step))

pub numbered_more : (cells : List CellValues) (n : GridSize) (old new : Numbering) (c : CellValues) → AreCells n cells → IsNumbered cells n old → old.ahead < length cells → c ≡ get_or cells old.ahead c → NumbersCell c old new → IsNumbered cells n new
numbered_more cells n old new c are is more here step =
    let a = old.ahead in
    let first = flat_map edges_of (take a cells) in
    let taken : take (a + 1) cells ≡ take a cells ++ c ∷ [] = take_more cells a c more ∙ ap (λ x. take a cells ++ x ∷ []) (sym here) in
    let whole : flat_map edges_of (take new.ahead cells) ≡ first ++ edges_of c =
    ap (λ i. flat_map edges_of (take i cells)) step.ahead ∙ ap (flat_map edges_of) taken ∙ flat_map-append edges_of (take a cells) (c ∷ []) ∙ ap (λ l. first ++ l) (append-nil (edges_of c)) in
    let entry = entry_kept old c in
    let slot = slot_of old.n c.x c.y c.z in
    let width = step.width in
    let ahead = step.ahead in
    let left = room_left cells n old are is in
    record {
      width = step.width ∙ is.width;
      some = omega (arith, ahead, more);
      vertices = step.vertices ∙ ap (λ k. k + length (edges_of c)) is.vertices ∙ sym (ap length whole ∙ length-append first (edges_of c));
      room = ap length step.slots ∙ length-set old.slots.items slot entry ∙ is.room;
      small = All-same IsSmall new.slots.items (set old.slots.items slot entry) step.slots (All-set IsSmall old.slots.items slot entry left is.small);
      kept = λ j d e less near. kept_on cells n old new c are is more here step j d e (cases_lt j a) less near;
    }

pub below_more : (cells : List CellValues) (a z : ℕ) (c : CellValues) → LiesBelow cells a z → a < length cells → c ≡ get_or cells a c → c.z ≤ z + 1 → LiesBelow cells (a + 1) z
below_more cells a z c below more here low k d less = by (cases_lt k a)
  where
    by : (k < a) ⊎ (a ≤ k) → (get_or cells k d).z ≤ z + 1
    by (inl earlier) = below k d earlier
    by (inr late) =
        let same : k ≡ a = omega (arith, late, less) in
        let e : (get_or cells k d).z ≡ c.z = ap (λ i. (get_or cells i d).z) same ∙ ap (λ (c : CellValues). c.z) (get_or_default cells a d c more ∙ sym here) in
        omega (arith, e, low)

-- where the next cell lies higher than one layer above z, all others that do not are numbered
pub stopped : (cells : List CellValues) (n : GridSize) (a z : ℕ) (c : CellValues) → AreCells n cells → a < length cells → c ≡ get_or cells a c → z + 1 < c.z → ReachesAbove cells a z
stopped cells n a z c are more here high k d within low = by (cases_lt k a)
  where
    by : (k < a) ⊎ (a ≤ k) → k < a
    by (inl earlier) = earlier
    by (inr late) = above (cases_order a k)
      where
        e : (get_or cells a d).z ≡ c.z
        e = ap (λ (c : CellValues). c.z) (get_or_default cells a d c more ∙ sym here)

        above : (a ≡ k) ⊎ ((a < k) ⊎ (k < a)) → k < a
        above (inl same) = let f : (get_or cells a d).z ≡ (get_or cells k d).z = ap (λ i. (get_or cells i d).z) same in absurd (omega (arith, e, f, low, high))
        above (inr (inl less)) = let f = not_above (get_or cells a d) (get_or cells k d) (are.rise a k d less within) in absurd (omega (arith, e, f, low, high))
        above (inr (inr less)) = less

-- ---- what the next cell has

pub in_at : (cells : List CellValues) (n m : GridSize) (a : ℕ) (c : CellValues) → AreCells n cells → m ≡ n → a < length cells → c ≡ get_or cells a c → IsIn m c
in_at cells n m a c are same more here =
    let P : GridSize → Type 0 = λ i. IsIn i c in
    let Q : CellValues → Type 0 = λ x. IsIn n x in
    subst P (sym same) (subst Q (sym here) (are.within a c more))

pub room_at : (n m : GridSize) (l : ℕ) → m ≡ n → l ≡ 2 * n.x * n.y → l ≡ 2 * m.x * m.y
room_at n m l same room = room ∙ ap (λ (i : GridSize). 2 * i.x * i.y) (sym same)
