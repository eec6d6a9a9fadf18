-- The definitions, computed for the seed 0: numbers and clauses that were worked out by hand and by another program.
use Rattle.std.proofs.Common.{◌≡◌, pos, [], ◌∷◌, map, take, drop, refl}
use Rattle.std.specs.Prelude.{codes, negsuc}
use Rattle.std.specs.Fmt.{digits}
use Rattle.fixed_ops.specs.declared.operation.Op.TheVariants.{X, Y, Const, Neg, Square, Add, Sub, Min, Max}
use Rattle.model_forge.specs.declared.disc.Role.TheVariants.{Solid, Hole}
use Rattle.model_forge.specs.Discs.{centre_of, radius_of, role_of}
use Rattle.model_forge.specs.Forged.{constant, forged, of_disc, says, solid_before}
use Rattle.model_forge.specs.Placed.{axes_at}
use Rattle.model_forge.specs.Stream.{drawn}

first_draw : drawn 0 0 ≡ 335903614
first_draw = refl

least_centre : centre_of 131072 ≡ negsuc 4294967295
least_centre = refl

greatest_centre : centre_of 131071 ≡ pos 4294901760
greatest_centre = refl

greatest_radius : radius_of 4095 ≡ pos 268435456
greatest_radius = refl

-- the next state of a seed that is not 0
second_draw_of_nine : drawn 9 1 ≡ 3311750083
second_draw_of_nine = refl

-- after the greatest radius comes the least
least_radius : radius_of 4096 ≡ pos 65536
least_radius = refl

-- one number of four makes a hole
roles : map role_of (8 ∷ 9 ∷ 10 ∷ 11 ∷ 12 ∷ []) ≡ Hole ∷ Solid ∷ Solid ∷ Solid ∷ Hole ∷ []
roles = refl

-- a constant has its number, and other clauses have 0
number_of_a_constant : constant (codes "a") (pos 7)
    ≡ record { name = codes "a"; form = record { op = Const; args = []; value = pos 7 } }
number_of_a_constant = refl

number_of_another : says (codes "c") Square (codes "b" ∷ [])
    ≡ record { name = codes "c"; form = record { op = Square; args = codes "b" ∷ []; value = pos 0 } }
number_of_another = refl

-- a disc alone
stands_alone : forged 0 1
    ≡ says (codes "x") X [] ∷ says (codes "y") Y []
    ∷ constant (codes "a0") (pos 2071855104)
    ∷ says (codes "b0") Sub (codes "x" ∷ codes "a0" ∷ [])
    ∷ says (codes "c0") Square (codes "b0" ∷ [])
    ∷ constant (codes "d0") (negsuc 300875775)
    ∷ says (codes "e0") Sub (codes "y" ∷ codes "d0" ∷ [])
    ∷ says (codes "f0") Square (codes "e0" ∷ [])
    ∷ says (codes "g0") Add (codes "c0" ∷ codes "f0" ∷ [])
    ∷ constant (codes "h0") (pos 136511488)
    ∷ says (codes "k0") Square (codes "h0" ∷ [])
    ∷ says (codes "m0") Sub (codes "g0" ∷ codes "k0" ∷ []) ∷ []
unfolding digits
stands_alone = refl

-- the second disc joins the first, and the third, of four draws of its own, is cut out of both
joins : drop 21 (take 23 (forged 0 3))
    ≡ says (codes "m1") Sub (codes "g1" ∷ codes "k1" ∷ [])
    ∷ says (codes "u1") Min (codes "m0" ∷ codes "m1" ∷ []) ∷ []
unfolding digits
joins = refl

cuts_out : drop 23 (forged 0 3)
    ≡ constant (codes "a2") (negsuc 2755592191)
    ∷ says (codes "b2") Sub (codes "x" ∷ codes "a2" ∷ [])
    ∷ says (codes "c2") Square (codes "b2" ∷ [])
    ∷ constant (codes "d2") (negsuc 382271487)
    ∷ says (codes "e2") Sub (codes "y" ∷ codes "d2" ∷ [])
    ∷ says (codes "f2") Square (codes "e2" ∷ [])
    ∷ says (codes "g2") Add (codes "c2" ∷ codes "f2" ∷ [])
    ∷ constant (codes "h2") (pos 43974656)
    ∷ says (codes "k2") Square (codes "h2" ∷ [])
    ∷ says (codes "m2") Sub (codes "g2" ∷ codes "k2" ∷ [])
    ∷ says (codes "n2") Neg (codes "m2" ∷ [])
    ∷ says (codes "u2") Max (codes "u1" ∷ codes "n2" ∷ []) ∷ []
unfolding digits
cuts_out = refl

-- a fourth one joins what the third made
before_the_fourth : solid_before 3 ≡ codes "u2"
unfolding digits
before_the_fourth = refl

-- the number of a name has no leading zero
eleventh : of_disc (codes "a") 10 ≡ codes "a10"
unfolding digits
eleventh = refl

-- each model begins with the clauses x and y, at the places 0 and 1
first_clauses : axes_at
    ≡ record { name = 120 ∷ []; op = X; a = 0; b = 0; value = pos 0 }
    ∷ record { name = 121 ∷ []; op = Y; a = 0; b = 0; value = pos 0 } ∷ []
first_clauses = refl
