-- Which places in a file want no look.
use Rattle.std.proofs.Common.{◌≡◌, ◌∙◌, ℕ, ◌+◌, ◌≤◌, Bool, true, false, List, [], ◌∷◌, ◌++◌, length, drop}
use Rattle.std.proofs.Common.{ap, arith, refl, sym}
use Rattle.std.specs.Prelude.{◌==◌, ◌&&◌, if◌then◌else◌, not, codes}
use Rattle.std.specs.List.{range_with_len}
use Rattle.std.proofs.lemmas.Bool.{eqb-true, eq-eqb, not-false, not_from_true}
use Rattle.std.proofs.lemmas.List.{drop_all, length-drop}
use Rattle.input_text.specs.Token.{Placed}
use Rattle.ballot_findings.specs.Breaks.{is_parted, parted, parted_from}
use Rattle.ballot_findings.specs.Lines.{place_line}
use Rattle.ballot_findings.specs.Sites.{candidates_at, goes_on, seats_at, strings, tokens_of}
use Rattle.ballot_findings.specs.Unseen.{is_far, is_lone}
use Rattle.ballot_findings.specs.Places.{line_at}
use Rattle.ballot_findings.specs.Laws.{ApartIsTold, BreaksAreTold, FarIsTold, FurtherAreTold, ReturnsAreTold}
use Rattle.ballot_findings.proofs.Firstly.{first_none, none_first}
use Rattle.ballot_findings.proofs.OddLaws.{none_of}
use Rattle.ballot_findings.proofs.Told.{not_written, nothing_told, unwritten}

-- ---- ballots that a line break parts

-- after which a ballot goes on, on the same line
abbrev AreTogether : (input : List ℕ) → List Placed → Type 0
AreTogether input tokens =
    (front : List Placed) (token next : Placed) (behind : List Placed) → tokens ≡ front ++ token ∷ next ∷ behind
    → goes_on token.item ≡ true → line_at input token.at ≡ line_at input next.at

together_if : (on : Bool) (m n : ℕ) → (on && not (m == n)) ≡ false → on ≡ true → m ≡ n
together_if true m n none is = eqb-true m n (not-false (m == n) none)
together_if false m n none is = absurd (cc)

none_if : (on : Bool) (m n : ℕ) → (on ≡ true → m ≡ n) → (on && not (m == n)) ≡ false
none_if true m n same = ap not (eq-eqb m n (same refl))
none_if false m n same = refl

module _ (input : List ℕ) where
  alone : (token : Placed) → AreTogether input (token ∷ [])
  alone token [] a b behind is on = absurd (cc)
  alone token (f ∷ []) a b behind is on = absurd (cc)
  alone token (f ∷ g ∷ front) a b behind is on = absurd (cc)

  -- the token is parted from the next, or the rest is all
  first_parted :
      (test : Bool) (token : Placed) (rest : List Placed) → (if test then token ∷ rest else rest) ≡ []
      → (test ≡ false) × (rest ≡ [])
  first_parted true token rest none = absurd (cc)
  first_parted false token rest none = (refl, none)

  parted_none :
      (token : Placed) (tokens : List Placed) → parted_from input token tokens ≡ []
      → AreTogether input (token ∷ tokens)
  parted_none token [] none before a b after is on = alone token before a b after is on
  parted_none token (next ∷ tokens) none [] a b after is on =
      let first : token ≡ a = cc in
      let second : next ≡ b = cc in
      let silent = (first_parted (is_parted input token next) token (parted_from input next tokens) none).0 in
      let same =
      together_if (goes_on token.item) (line_at input token.at) (line_at input next.at) silent
      (ap (λ (t : Placed). goes_on t.item) first ∙ on) in
      ap (λ (t : Placed). line_at input t.at) (sym first) ∙ (same ∙ ap (λ (t : Placed). line_at input t.at) second)
  parted_none token (next ∷ tokens) none (f ∷ before) a b after is on =
      let rest : next ∷ tokens ≡ before ++ a ∷ b ∷ after = cc in
      parted_none next tokens
      (first_parted (is_parted input token next) token (parted_from input next tokens) none).1 before a b after rest on

  none_parted :
      (token : Placed) (tokens : List Placed) → AreTogether input (token ∷ tokens)
      → parted_from input token tokens ≡ []
  none_parted token [] together = refl
  none_parted token (next ∷ tokens) together =
      let rest = parted_from input next tokens in
      ap (λ (b : Bool). if b then token ∷ rest else rest)
      (none_if (goes_on token.item) (line_at input token.at) (line_at input next.at)
      (λ on. together [] token next tokens refl on))
      ∙ none_parted next tokens
      (λ before a b after is on. together (token ∷ before) a b after (ap (λ (l : List Placed). token ∷ l) is) on)

  nobody : AreTogether input []
  nobody [] a b behind is on = absurd (cc)
  nobody (f ∷ front) a b behind is on = absurd (cc)

  all_none : (tokens : List Placed) → parted input tokens ≡ [] → AreTogether input tokens
  all_none [] none = nobody
  all_none (token ∷ tokens) none = parted_none token tokens none

  none_all : (tokens : List Placed) → AreTogether input tokens → parted input tokens ≡ []
  none_all [] together = refl
  none_all (token ∷ tokens) together = none_parted token tokens together

pub breaks : BreaksAreTold
breaks input =
    let line : Placed → List ℕ = λ token. place_line input (codes "look line ends within a ballot") [] token.at in
    let tokens = drop 2 (tokens_of input) in
    let all = nothing_told line (λ t empty. absurd (cc)) (parted input tokens) in
    (λ none. all_none input tokens (all.0 none), λ together. all.1 (none_all input tokens together))

-- ---- strings after the title

few_left : (n : ℕ) (xs : List Placed) → drop n xs ≡ [] → length xs ≤ n
few_left n xs none = omega (arith, length-drop n xs, ap (λ (l : List Placed). length l) none)

pub further : FurtherAreTold
further input candidates =
    let line : Placed → List ℕ = λ token. place_line input (codes "look string behind the title") [] token.at in
    let n = candidates + 1 in
    let all = strings (tokens_of input) in
    let told = nothing_told line (λ t empty. absurd (cc)) (drop n all) in (
      λ none. few_left n all (told.0 none),
      λ few. told.1 (drop_all n all few),
    )

-- ---- the number of seats, and what a reader may not see

pub apart : ApartIsTold
apart input =
    let candidates = line_at input (candidates_at input) in
    let seats = line_at input (seats_at input) in (
      λ none. eqb-true candidates seats (not-false (candidates == seats) (not_written (not (candidates == seats)) 108 _ none)),
      λ same. unwritten (not (candidates == seats)) _ (not_from_true (candidates == seats) (eq-eqb candidates seats same)),
    )

pub far : FarIsTold
far input =
    let test : Placed → Bool = λ t. is_far input t.at in
    let line : Placed → List ℕ = λ t. place_line input (codes "look hidden by blanks") [] t.at in
    let all = none_of test (tokens_of input) in (
      λ none. all.0 (first_none test line (λ t empty. absurd (cc)) (tokens_of input) none),
      λ each. none_first test line (tokens_of input) (all.1 each),
    )

pub returns : ReturnsAreTold
returns input =
    let line : ℕ → List ℕ = place_line input (codes "look line ends with a carriage return alone") [] in
    let places = range_with_len 0 (length input) in
    let all = none_of (is_lone input) places in (
      λ none. all.0 (first_none (is_lone input) line (λ p empty. absurd (cc)) places none),
      λ each. none_first (is_lone input) line places (all.1 each),
    )
