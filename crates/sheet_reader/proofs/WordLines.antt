-- A line of a word and a value is read in one way.
use Rattle.std.proofs.Common.{◌≡◌, ℕ, ◌<◌, ◌≤◌, ◌^◌, ◌-◌, Bool, true, false, eqb, List, [], ◌∷◌, ◌++◌, length}
use Rattle.std.proofs.Common.{refl, sym, ◌∙◌, ap, subst, arith}
use Rattle.std.specs.Prelude.{◌≢◌, codes, decimal, Result, Ok, Err, MatchResult}
use Rattle.std.proofs.lemmas.Bool.Decides.{nat_tests}
use Rattle.std.proofs.lemmas.Fmt.{decimal_injective}
use Rattle.std.proofs.lemmas.List.Elements.{All-get_or}
use Rattle.plain_ballots.specs.declared.limits.TheConstants.{MOST_CANDIDATES}
use Rattle.candidate_roll.specs.Name.{IsName, IsBadByteAt}
use Rattle.candidate_roll.specs.declared.state.State.{State}
use Rattle.sheet_text.specs.Lines.{state_word}
use Rattle.meek_rule.specs.declared.step.Step.TheVariants.{Defeat}
use Rattle.sheet_reader.specs.Cut.{IsWithout}
use Rattle.meek_count.specs.Ranges.{HasTiedFor}
use Rattle.sheet_reader.specs.Parts.{number_line_of, defeat_line}
use Rattle.sheet_reader.specs.Refusal.{Stops}
use Rattle.sheet_reader.specs.declared.sheet_stop.SheetStop.{SheetStop}
use Rattle.sheet_reader.specs.declared.sheet_stop.SheetStop.TheVariants.{Malformed, NoMemory}
use Rattle.sheet_reader.proofs.Cuts.{cut_once, decimal_without, word_without_space}
use Rattle.sheet_reader.proofs.LineParts.{heads, behind_front, inside}

pub same_line :
    (word text other : List ℕ) (lines new rest : List (List ℕ)) → lines ≡ (word ++ text) ∷ new
    → lines ≡ (word ++ other) ∷ rest → (text ≡ other) × (new ≡ rest)
same_line word text other lines new rest one two =
    let h = heads (word ++ text) (word ++ other) new rest (sym one ∙ two) in
    (behind_front word text other h.0, h.1)

pub line_is :
    (word text other : List ℕ) (lines new : List (List ℕ)) → lines ≡ (word ++ text) ∷ new → text ≡ other
    → lines ≡ (word ++ other) ∷ new
line_is word text other lines new is e = is ∙ ap (λ (t : List ℕ). (word ++ t) ∷ new) e

-- the number before a space, and what is after it
pub number_cut :
    (text front back other : List ℕ) (n : ℕ) → text ≡ front ++ 32 ∷ back → IsWithout 32 front → n < 2 ^ 64
    → text ≡ decimal n ++ 32 ∷ other → (front ≡ decimal n) × (back ≡ other)
number_cut text front back other n is w small e =
    cut_once 32 front (decimal n) back other w (decimal_without 32 n (omega arith) small) (sym is ∙ e)

-- the word of a state before a space, and what is after it
pub state_cut :
    (text front back other : List ℕ) (state : State) → text ≡ front ++ 32 ∷ back → IsWithout 32 front
    → text ≡ state_word state ++ 32 ∷ other → (front ≡ state_word state) × (back ≡ other)
state_cut text front back other state is w e =
    cut_once 32 front (state_word state) back other w (word_without_space state) (sym is ∙ e)

-- what is after the same front
pub behind_word : (word text rest other : List ℕ) → text ≡ word ++ rest → text ≡ word ++ other → rest ≡ other
behind_word word text rest other one two = behind_front word rest other (sym one ∙ two)

-- too long to be a name, or with a byte that is in none
pub too_long : (most : ℕ) (bytes : List ℕ) → most < length bytes → IsName most bytes → ⊥
too_long most bytes long is = omega (arith, long, is.short)

pub bad_byte : (most place : ℕ) (bytes : List ℕ) → IsBadByteAt most bytes place → IsName most bytes → ⊥
bad_byte most place bytes bad is =
    bad.not_printable (All-get_or (λ b. (32 ≤ b) × (b ≢ 34)) bytes place 0 bad.inside is.printable)

-- the line of a word and a name
pub title_read : (r : Result (List ℕ) SheetStop) (most : ℕ) (word text : List ℕ) (lines new : List (List ℕ))
    → lines ≡ (word ++ text) ∷ new
    → MatchResult r (λ name. (name ≡ text) × IsName most name) (λ stop. Stops stop (¬ (IsName most text)))
    → MatchResult r (λ name. IsName most name × (lines ≡ (word ++ name) ∷ new))
    (λ stop. Stops stop ((name : List ℕ) (rest : List (List ℕ)) → IsName most name → lines ≢ (word ++ name) ∷ rest))
title_read (Ok name) most word text lines new is h = (h.1, line_is word text name lines new is (sym h.0))
title_read (Err Malformed) most word text lines new is h =
    λ name rest named e. h
    (subst (λ (t : List ℕ). IsName most t) (sym (same_line word text name lines new rest is e).0) named)
title_read (Err NoMemory) most word text lines new is h = tt

-- what is after the word of a defeat
pub at_defeat :
    (n : ℕ) (text defeat list : List ℕ) → text ≡ codes "step defeat " ++ defeat → text ≡ defeat_line n list
    → defeat ≡ decimal n ++ 32 ∷ (codes "tied" ++ list)
at_defeat n text defeat list read is =
    behind_word (codes "step defeat ") text defeat (decimal n ++ 32 ∷ (codes "tied" ++ list)) read is

pub defeat_once :
    (n m : ℕ) (text list other : List ℕ) → n < 2 ^ 64 → m < 2 ^ 64 → text ≡ defeat_line n list
    → text ≡ defeat_line m other → (n ≡ m) × (list ≡ other)
defeat_once n m text list other small few one two =
    let d =
    behind_word (codes "step defeat ") text (decimal n ++ 32 ∷ (codes "tied" ++ list))
    (decimal m ++ 32 ∷ (codes "tied" ++ other)) one two in
    let c =
    cut_once 32 (decimal n) (decimal m) (codes "tied" ++ list) (codes "tied" ++ other)
    (decimal_without 32 n (omega arith) small) (decimal_without 32 m (omega arith) few) d in
    (decimal_injective n m small few c.0, behind_front (codes "tied") list other c.1)

-- the number of a candidate who is among the tied
pub defeated_small :
    (n len : ℕ) (tied : List Bool) → len ≤ MOST_CANDIDATES → length tied ≡ len → HasTiedFor len (Defeat n) tied → n ≤ len
defeated_small n len tied few long has = omega (arith, has.0, long, inside tied (n - 1) has.1)

pub number_text :
    (round iteration : ℕ) (text : List ℕ) (lines new rest : List (List ℕ))
    → lines ≡ (codes "round " ++ text) ∷ new → lines ≡ number_line_of round iteration ∷ rest
    → text ≡ decimal round ++ 32 ∷ (codes "iteration " ++ decimal iteration)
number_text round iteration text lines new rest read is =
    (same_line (codes "round ") text (decimal round ++ 32 ∷ (codes "iteration " ++ decimal iteration)) lines
    new rest read is).0

pub stop_later : {P Q : Type 0} (stop : SheetStop) → (P → Q) → Stops stop P → Stops stop Q
stop_later Malformed f p = f p
stop_later NoMemory f p = tt

pub empty_list : (list : List ℕ) (b : Bool) → b ≡ eqb (length list) 0 → b ≡ true → list ≡ []
empty_list [] b e t = refl
empty_list (x ∷ list) b e t = absurd (grind (arith, nat_tests))

pub some_list : (list : List ℕ) (b : Bool) → b ≡ eqb (length list) 0 → b ≡ false → 0 < length list
some_list [] b e t = absurd cc
some_list (x ∷ list) b e t = omega arith
