-- What is written as a keyword names it, and nothing else does.
use Rattle.std.proofs.Common.{◌≡◌, ◌≢◌, ℕ, List, Option, Some, None, refl, sym}
use Rattle.std.specs.Prelude.{IfSome, IfNone}
use Rattle.edit_script.specs.declared.keyword.Keyword.{Keyword}
use Rattle.edit_script.specs.declared.keyword.Keyword.TheVariants.{Set, Add, Put, Cut, Undo, Render, Height, Mesh, Text, Cost}
use Rattle.edit_script.specs.Keywords.{keyword_named, keyword_text}
use Rattle.fixed_ops.proofs.Lists.{told_apart}

keyword_named-written : (keyword : Keyword) → keyword_named (keyword_text keyword) ≡ Some keyword
keyword_named-written Set = refl
keyword_named-written Add = refl
keyword_named-written Put = refl
keyword_named-written Cut = refl
keyword_named-written Undo = refl
keyword_named-written Render = refl
keyword_named-written Height = refl
keyword_named-written Mesh = refl
keyword_named-written Text = refl
keyword_named-written Cost = refl

-- what the search for a keyword gives
pub keyword_found : (word : List ℕ) (found : Option Keyword) → IfSome found (λ keyword. word ≡ keyword_text keyword)
    → IfNone found ((keyword : Keyword) → word ≢ keyword_text keyword) → found ≡ keyword_named word
keyword_found word (Some keyword) is none = rw is (sym (keyword_named-written keyword))
keyword_found word None is none =
    rw (told_apart _ _ (none Set), told_apart _ _ (none Add), told_apart _ _ (none Put), told_apart _ _ (none Cut), told_apart _ _ (none Undo), told_apart _ _ (none Render), told_apart _ _ (none Height), told_apart _ _ (none Mesh), told_apart _ _ (none Text), told_apart _ _ (none Cost)) refl
