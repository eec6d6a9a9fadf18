-- Words are read as their relations say.
use Rattle.std.proofs.Common.{◌≡◌, ℕ, zero, suc, ◌+◌, ◌<◌, List, [], ◌∷◌, ◌++◌, length, get_or, take, Result, Ok, Err, refl, sym, ap, subst, ◌∙◌, append_assoc, length-append, arith}
use Rattle.std.proofs.lemmas.List.{append-nil}
use Rattle.view_settings.specs.declared.setting.Setting.{Setting}
use Rattle.view_settings.specs.declared.verb.Verb.{Verb}
use Rattle.view_settings.specs.declared.word_fault.WordFault.{WordFault}
use Rattle.view_settings.specs.declared.word_fault.WordReason.{WordReason}
use Rattle.view_settings.specs.Grammar.{GiveAfter, RefusesAfter, GivenSettingsAreExact, RefusedWordIsExact}
use Rattle.view_settings.specs.Setting.{setting_of}
use Rattle.view_settings.specs.Settings.{Given}
use Rattle.view_settings.specs.Words.{after_words}

abbrev given_of : Verb → List Setting → Given
given_of verb taken = record { verb = verb; settings = taken }

-- a refusal of the word of this number
abbrev refusal : ℕ → WordReason → WordFault
refusal at reason = record { at = at; reason = reason }

-- the rest gives its settings after one more that was taken
rest_gives : (verb : Verb) (taken : List Setting) (word : List ℕ) (words : List (List ℕ)) (setting : Setting) (settings : List Setting)
    → GiveAfter verb taken (word ∷ words) (setting ∷ settings) → GiveAfter verb (taken ++ setting ∷ []) words settings
rest_gives verb taken word words setting settings g = record {
  as_many = omega (arith, g.as_many);
  each = λ k w s lt. rw append_assoc (g.each (suc k) w s (omega arith));
}

-- the first gives its setting
first_gives : (verb : Verb) (taken : List Setting) (word : List ℕ) (words : List (List ℕ)) (setting : Setting) (settings : List Setting)
    → GiveAfter verb taken (word ∷ words) (setting ∷ settings) → setting_of verb taken word ≡ Ok setting
first_gives verb taken word words setting settings g = rw append-nil at (g.each 0 word setting (omega arith))

-- one word and the rest
all_give : (verb : Verb) (taken : List Setting) (word : List ℕ) (words : List (List ℕ)) (setting : Setting) (settings : List Setting)
    → setting_of verb taken word ≡ Ok setting → GiveAfter verb (taken ++ setting ∷ []) words settings → GiveAfter verb taken (word ∷ words) (setting ∷ settings)
all_give verb taken word words setting settings first rest = record { as_many = omega (arith, rest.as_many); each = each }
  where
    each : (k : ℕ) (w : List ℕ) (s : Setting) → k < length (word ∷ words) → setting_of verb (taken ++ take k (setting ∷ settings)) (get_or (word ∷ words) k w) ≡ Ok (get_or (setting ∷ settings) k s)
    each zero w s lt = rw append-nil first
    each (suc k) w s lt = rw append_assoc at (rest.each k w s (omega (arith, lt)))

-- words that give settings are taken
given_taken : (verb : Verb) (taken : List Setting) (words : List (List ℕ)) (settings : List Setting) → GiveAfter verb taken words settings
    → after_words (given_of verb taken) words ≡ Ok (given_of verb (taken ++ settings))
given_taken verb taken [] [] g = rw append-nil refl
given_taken verb taken [] (setting ∷ settings) g = absurd (omega (arith, g.as_many))
given_taken verb taken (word ∷ words) [] g = absurd (omega (arith, g.as_many))
given_taken verb taken (word ∷ words) (setting ∷ settings) g =
    let later = given_taken verb (taken ++ setting ∷ []) words settings (rest_gives verb taken word words setting settings g) in
    rw (first_gives verb taken word words setting settings g) (rw append_assoc at later)

record Taken (verb : Verb) (taken : List Setting) (words : List (List ℕ)) (given : Given) : Type 0 where
  settings : List Setting
  is : given ≡ given_of verb (taken ++ settings)
  gives : GiveAfter verb taken words settings

-- words that are taken give settings
taken_given : (verb : Verb) (taken : List Setting) (words : List (List ℕ)) (given : Given) → after_words (given_of verb taken) words ≡ Ok given → Taken verb taken words given
taken_given verb taken [] given e = record {
  settings = [];
  is = rw append-nil cc;
  gives = record { as_many = refl; each = λ k w s lt. absurd (omega (arith, lt)) };
}
taken_given verb taken (word ∷ words) given e = by (setting_of verb taken word) refl e (λ s. taken_given verb (taken ++ s ∷ []) words given)
  where
    by : (r : Result Setting WordReason) → setting_of verb taken word ≡ r → after_words (given_of verb taken) (word ∷ words) ≡ Ok given
        → ((s : Setting) → after_words (given_of verb (taken ++ s ∷ [])) words ≡ Ok given → Taken verb (taken ++ s ∷ []) words given)
        → Taken verb taken (word ∷ words) given
    by (Ok s) first e rest =
        let later = rest s (rw first at e) in
        record {
          settings = s ∷ later.settings;
          is = later.is ∙ ap (given_of verb) (append_assoc taken (s ∷ []) later.settings);
          gives = all_give verb taken word words s later.settings first later.gives;
        }
    by (Err reason) first e rest = absurd (let f = rw first at e in cc)

pub given_settings : GivenSettingsAreExact
given_settings verb words settings = (
  λ e. let t = taken_given verb [] words (given_of verb settings) e in
      let same : settings ≡ t.settings = ap (λ (g : Given). g.settings) t.is in
      subst (λ s. GiveAfter verb [] words s) (sym same) t.gives,
  λ g. given_taken verb [] words settings g,
)

-- the word that is refused after those that were taken
refused_read : (verb : Verb) (taken : List Setting) (words : List (List ℕ)) (k : ℕ) (reason : WordReason) (before : List Setting) → k < length words
    → GiveAfter verb taken (take k words) before → setting_of verb (taken ++ before) (get_or words k []) ≡ Err reason
    → after_words (given_of verb taken) words ≡ Err (record { at = length taken + k + 2; reason = reason })
refused_read verb taken [] k reason before lt g e = absurd (omega (arith, lt))
refused_read verb taken (word ∷ words) zero reason [] lt g e =
    let number : length taken + 2 ≡ length taken + 0 + 2 = omega arith in
    rw (rw append-nil at e) (ap (λ (n : ℕ). Err (refusal n reason)) number)
refused_read verb taken (word ∷ words) zero reason (setting ∷ before) lt g e = absurd (omega (arith, g.as_many))
refused_read verb taken (word ∷ words) (suc k) reason [] lt g e = absurd (omega (arith, g.as_many))
refused_read verb taken (word ∷ words) (suc k) reason (setting ∷ before) lt g e =
    let later = refused_read verb (taken ++ setting ∷ []) words k reason before (omega (arith, lt)) (rest_gives verb taken word (take k words) setting before g) (rw append_assoc e) in
    let many : length (taken ++ setting ∷ []) + k + 2 ≡ length taken + suc k + 2 = omega (arith, length-append taken (setting ∷ [])) in
    rw (first_gives verb taken word (take k words) setting before g) (rw many at later)

record Refused (verb : Verb) (taken : List Setting) (words : List (List ℕ)) (fault : WordFault) : Type 0 where
  k : ℕ
  reason : WordReason
  is : fault ≡ record { at = length taken + k + 2; reason = reason }
  refuses : RefusesAfter verb taken words k reason

-- a refusal is of the first word that gives no setting
read_refused : (verb : Verb) (taken : List Setting) (words : List (List ℕ)) (fault : WordFault) → after_words (given_of verb taken) words ≡ Err fault → Refused verb taken words fault
read_refused verb taken [] fault e = absurd cc
read_refused verb taken (word ∷ words) fault e = by (setting_of verb taken word) refl e (λ s. read_refused verb (taken ++ s ∷ []) words fault)
  where
    by : (r : Result Setting WordReason) → setting_of verb taken word ≡ r → after_words (given_of verb taken) (word ∷ words) ≡ Err fault
        → ((s : Setting) → after_words (given_of verb (taken ++ s ∷ [])) words ≡ Err fault → Refused verb (taken ++ s ∷ []) words fault)
        → Refused verb taken (word ∷ words) fault
    by (Ok s) first e rest =
        let later = rest s (rw first at e) in
        let many : length (taken ++ s ∷ []) + later.k + 2 ≡ length taken + suc later.k + 2 = omega (arith, length-append taken (s ∷ [])) in
        record {
          k = suc later.k;
          reason = later.reason;
          is = rw many at later.is;
          refuses = record {
            within = omega (arith, later.refuses.within);
            before = s ∷ later.refuses.before;
            given = all_give verb taken word (take later.k words) s later.refuses.before first later.refuses.given;
            refused = rw append_assoc at later.refuses.refused;
          };
        }
    by (Err reason) first e rest = record {
      k = 0;
      reason = reason;
      is =
          let f = rw first at e in
          let is : fault ≡ refusal (length taken + 2) reason = cc in
          let number : length taken + 2 ≡ length taken + 0 + 2 = omega arith in
          is ∙ ap (λ (n : ℕ). refusal n reason) number;
      refuses = record {
        within = omega arith;
        before = [];
        given = record { as_many = refl; each = λ k w s lt. absurd (omega (arith, lt)) };
        refused = rw append-nil first;
      };
    }

pub refused_word : RefusedWordIsExact
refused_word verb words k reason = (
  λ e. let r = read_refused verb [] words (record { at = k + 2; reason = reason }) e in
      let place : k ≡ r.k = omega (arith, ap (λ (f : WordFault). f.at) r.is) in
      let why : reason ≡ r.reason = ap (λ (f : WordFault). f.reason) r.is in
      subst (λ j. RefusesAfter verb [] words j reason) (sym place) (subst (RefusesAfter verb [] words r.k) (sym why) r.refuses),
  λ r.
      let number : 0 + k + 2 ≡ k + 2 = omega arith in
      refused_read verb [] words k reason r.before r.within r.given r.refused ∙ ap (λ (n : ℕ). Err (refusal n reason)) number,
)
