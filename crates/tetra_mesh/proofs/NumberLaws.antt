-- The number of a vertex by its cell.
use Rattle.std.proofs.Common.{◌≡◌, ℕ, zero, suc, ◌+◌, ◌-◌, ◌<◌, ◌≤◌, Bool, true, false, List, [], ◌∷◌, ◌++◌, refl, ap, sym, ◌∙◌, subst, inl, inr, arith}
use Rattle.std.specs.Prelude.{◌⊎◌, ◌==◌, ◌&&◌, map, filter, flat_map, take, drop, get_or, length, All, AllPairs, Contains}
use Rattle.std.specs.List.{position_or_len, range_with_len}
use Rattle.std.proofs.lemmas.Bool.{and_parts, eqb-true, false_from_ne_true}
use Rattle.std.proofs.lemmas.List.{append_assoc, drop_more, get_or-take, length-append, length-map, map-append, take-append-drop, length-take-le}
use Rattle.std.proofs.lemmas.List.Concat.{flat_map-append}
use Rattle.std.proofs.lemmas.List.Elements.{All-append, All-contains, All-filter, All-from_get_or, All-head, All-map, All-nil, All-tail, filter-append, filter_passes}
use Rattle.std.proofs.lemmas.List.FromFn.{get_or-range_with_len, length-range_with_len}
use Rattle.kuhn_cells.specs.declared.cell_list.CellValues.{CellValues}
use Rattle.kuhn_cells.specs.declared.edge_key.EdgeKey.{EdgeKey}
use Rattle.kuhn_cells.specs.Arrangement.{differ}
use Rattle.kuhn_cells.specs.Cells.{directions_of, edges_of, has_inside, lowest_corner}
use Rattle.kuhn_cells.specs.Faces.{number_among, same_edge}
use Rattle.kuhn_cells.specs.Laws.{IsCellBefore}
use Rattle.kuhn_cells.specs.Triangles.{edge_from}
use Rattle.kuhn_cells.proofs.FaceLaws.{same_as_itself}
use Rattle.tetra_mesh.specs.Numbering.{mask_of, rank_of}
use Rattle.tetra_mesh.proofs.Bits.{directions_below, rank}

-- ---- the first place at which a test passes

at_first : {A : Type 0} (p : A → Bool) (xs : List A) (y : A) (ys : List A) → All (λ x. p x ≡ false) xs → p y ≡ true → position_or_len p (xs ++ y ∷ ys) ≡ length xs
at_first p [] y ys none here = rw here refl
at_first p (x ∷ xs) y ys none here =
    let rest = at_first p xs y ys (All-tail (λ x. p x ≡ false) x xs none) here in
    rw (All-head (λ x. p x ≡ false) x xs none) (omega (arith, rest))

-- ---- the directions of a cell

pub range_parts : (a m k : ℕ) → range_with_len a (m + suc k) ≡ range_with_len a m ++ (a + m) ∷ range_with_len (a + m + 1) k
range_parts a zero k =
    let e : zero + suc k ≡ suc k = omega arith in
    let f : a + zero ≡ a = omega arith in
    rw (e, f) refl
range_parts a (suc m) k =
    let e : suc m + suc k ≡ suc (m + suc k) = omega arith in
    let f : a + suc m ≡ (a + 1) + m = omega arith in
    rw (e, f) (ap (λ l. a ∷ l) (range_parts (a + 1) m k))

pub is_direction : (c : CellValues) (dir : ℕ) → Contains (directions_of c) dir → (1 ≤ dir) × (dir < 8) × (differ (has_inside c 0) (has_inside c dir) ≡ true)
unfolding directions_of
is_direction c dir h =
    let q = λ (d : ℕ). differ (has_inside c 0) (has_inside c d) in
    let near = All-contains (λ d. (1 ≤ d) × (d < 8)) (directions_of c) dir (All-filter q (λ d. (1 ≤ d) × (d < 8)) (range_with_len 1 7) all_near) h in
    (near.0, near.1, All-contains (λ d. q d ≡ true) (directions_of c) dir (filter_passes q (range_with_len 1 7)) h)
  where
    all_near : All (λ d. (1 ≤ d) × (d < 8)) (range_with_len 1 7)
    all_near k d few = let h : k < 7 = omega (arith, few) in rw (get_or-range_with_len 1 7 k d h) (omega arith, omega (arith, h))

directions_parts : (c : CellValues) (dir : ℕ) → 1 ≤ dir → dir < 8 → differ (has_inside c 0) (has_inside c dir) ≡ true → (after : List ℕ) × (directions_of c ≡ directions_below c dir ++ dir ∷ after)
unfolding directions_of
directions_parts c dir some few here =
    let q = λ (d : ℕ). differ (has_inside c 0) (has_inside c d) in
    let m = dir - 1 in
    let k = 7 - dir in
    let e : m + suc k ≡ 7 = omega (arith, some, few) in
    let f : 1 + m ≡ dir = omega (arith, some) in
    let parts = rw (e, f) at (range_parts 1 m k) in (
      filter q (range_with_len (dir + 1) k),
      ap (filter q) parts ∙ filter-append q (range_with_len 1 m) (dir ∷ range_with_len (dir + 1) k) ∙ kept q here (range_with_len 1 m) (range_with_len (dir + 1) k),
    )
  where
    kept : (q : ℕ → Bool) → q dir ≡ true → (xs ys : List ℕ) → filter q xs ++ filter q (dir ∷ ys) ≡ filter q xs ++ dir ∷ filter q ys
    kept q e xs ys = rw e refl

below_less : (c : CellValues) (dir : ℕ) → All (λ d. d < dir) (directions_below c dir)
below_less c dir =
    All-filter (λ d. differ (has_inside c 0) (has_inside c d)) (λ d. d < dir) (range_with_len 1 (dir - 1)) (λ k d within.
    let few : k < dir - 1 = omega (arith, within, length-range_with_len 1 (dir - 1)) in
    rw (get_or-range_with_len 1 (dir - 1) k d few) (omega (arith, few)))

-- ---- the edges of other cells

not_before : (b c : CellValues) → c.x ≡ b.x → c.y ≡ b.y → c.z ≡ b.z → IsCellBefore b c → ⊥
not_before b c x y z (inl less) = omega (arith, z, less)
not_before b c x y z (inr rest) = by rest.1
  where
    last : (b.y ≡ c.y) × (b.x < c.x) → ⊥
    last h = omega (arith, x, h.1)

    by : (b.y < c.y) ⊎ ((b.y ≡ c.y) × (b.x < c.x)) → ⊥
    by (inl less) = omega (arith, y, less)
    by (inr more) = last more

-- a cell that lies before another has no edge from its lowest corner
not_there : (b c : CellValues) (dir : ℕ) → IsCellBefore b c → All (λ e. same_edge (edge_from (lowest_corner c) dir) e ≡ false) (edges_of b)
not_there b c dir before =
    All-map (λ e. same_edge (edge_from (lowest_corner c) dir) e ≡ false) (edge_from (lowest_corner b)) (directions_of b) (λ k d within. false_from_ne_true _ (apart (get_or (directions_of b) k d)))
  where
    apart : (d : ℕ) → same_edge (edge_from (lowest_corner c) dir) (edge_from (lowest_corner b) d) ≡ true → ⊥
    apart d e =
        let x = and_parts _ _ e in
        let y = and_parts _ _ x.1 in
        let z = and_parts _ _ y.1 in
        not_before b c (eqb-true c.x b.x x.0) (eqb-true c.y b.y y.0) (eqb-true c.z b.z z.0) before

none_before : (c : CellValues) (dir : ℕ) (cells : List CellValues) → All (λ b. IsCellBefore b c) cells → All (λ e. same_edge (edge_from (lowest_corner c) dir) e ≡ false) (flat_map edges_of cells)
none_before c dir [] h = All-nil (λ e. same_edge (edge_from (lowest_corner c) dir) e ≡ false)
none_before c dir (b ∷ cells) h =
    All-append (λ e. same_edge (edge_from (lowest_corner c) dir) e ≡ false) (edges_of b) (flat_map edges_of cells) (not_there b c dir (All-head (λ b. IsCellBefore b c) b cells h)) (none_before c dir cells (All-tail (λ b. IsCellBefore b c) b cells h))

none_below : (c : CellValues) (dir : ℕ) → All (λ e. same_edge (edge_from (lowest_corner c) dir) e ≡ false) (map (edge_from (lowest_corner c)) (directions_below c dir))
none_below c dir =
    All-map (λ e. same_edge (edge_from (lowest_corner c) dir) e ≡ false) (edge_from (lowest_corner c)) (directions_below c dir) (λ k d within. false_from_ne_true _ (apart (get_or (directions_below c dir) k d) (below_less c dir k d within)))
  where
    apart : (d : ℕ) → d < dir → same_edge (edge_from (lowest_corner c) dir) (edge_from (lowest_corner c) d) ≡ true → ⊥
    apart d less e =
        let x = and_parts (c.x == c.x) (c.y == c.y && (c.z == c.z && dir == d)) e in
        let y = and_parts (c.y == c.y) (c.z == c.z && dir == d) x.1 in
        let z = and_parts (c.z == c.z) (dir == d) y.1 in
        let same = eqb-true dir d z.1 in
        omega (arith, less, same)

earlier : (cells : List CellValues) (j : ℕ) (d : CellValues) → AllPairs IsCellBefore cells → j < length cells → All (λ b. IsCellBefore b (get_or cells j d)) (take j cells)
earlier cells j d rise within =
    All-from_get_or (λ b. IsCellBefore b (get_or cells j d)) (take j cells) d (λ k few.
    let less : k < j = omega (arith, few, length-take-le j cells (omega (arith, within))) in
    let P : CellValues → Type 0 = λ b. IsCellBefore b (get_or cells j d) in
    subst P (sym (get_or-take j cells k d less)) (rise k j d less within))

rejoined : {A : Type 0} (a b : List A) (e : A) (d c : List A) → a ++ ((b ++ e ∷ d) ++ c) ≡ (a ++ b) ++ e ∷ (d ++ c)
rejoined a b e d c = ap (λ l. a ++ l) (append_assoc b (e ∷ d) c) ∙ sym (append_assoc a b (e ∷ (d ++ c)))

pub number_by_cells : (cells : List CellValues) (j dir : ℕ) (d : CellValues) → AllPairs IsCellBefore cells → j < length cells → Contains (directions_of (get_or cells j d)) dir → number_among (flat_map edges_of cells) (edge_from (lowest_corner (get_or cells j d)) dir) ≡ length (flat_map edges_of (take j cells)) + rank_of (mask_of (get_or cells j d)) dir
number_by_cells cells j dir d rise within h =
    let c = get_or cells j d in
    let p = lowest_corner c in
    let e = edge_from p dir in
    let is = is_direction c dir h in
    let parts = directions_parts c dir is.0 is.1 is.2 in
    let before = flat_map edges_of (take j cells) in
    let below = map (edge_from p) (directions_below c dir) in
    let above = map (edge_from p) parts.0 in
    let after = flat_map edges_of (drop (j + 1) cells) in
    let split : cells ≡ take j cells ++ c ∷ drop (j + 1) cells = sym (take-append-drop j cells) ∙ ap (λ l. take j cells ++ l) (drop_more cells j d within) in
    let own : edges_of c ≡ below ++ e ∷ above = ap (map (edge_from p)) parts.1 ∙ map-append (edge_from p) (directions_below c dir) (dir ∷ parts.0) in
    let whole : flat_map edges_of cells ≡ (before ++ below) ++ e ∷ (above ++ after) =
    ap (flat_map edges_of) split ∙ flat_map-append edges_of (take j cells) (c ∷ drop (j + 1) cells) ∙ ap (λ l. before ++ (l ++ after)) own ∙ rejoined before below e above after in
    let P : EdgeKey → Type 0 = λ f. same_edge e f ≡ false in
    let none = All-append P before below (none_before c dir (take j cells) (earlier cells j d rise within)) (none_below c dir) in
    ap (λ l. number_among l e) whole
    ∙ at_first (same_edge e) (before ++ below) e (above ++ after) none (same_as_itself e)
    ∙ length-append before below
    ∙ ap (λ n. length before + n) (length-map (directions_below c dir) (edge_from p) ∙ sym (rank c dir is.1))
