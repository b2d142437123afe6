-- A candidate's JSON as a text of what it says: in the roll, and in an iteration.
use Rattle.std.proofs.Common.{◌≡◌, ◌∙◌, refl, ap, ℕ, ◌+◌, Bool, true, false, List, [], ◌∷◌, ◌++◌}
use Rattle.std.proofs.Common.{arith, ◌<◌}
use Rattle.std.specs.Prelude.{codes, decimal, slice_index}
use Rattle.candidate_roll.specs.State.{state_at}
use Rattle.lot_order.specs.Flags.{mark_at}
use Rattle.meek_rule.specs.Row.{Row}
use Rattle.plain_ballots.specs.declared.limits.TheConstants.{MOST_CANDIDATES}
use Rattle.fixed_place.specs.Text.{text_of}
use Rattle.sheet_text.specs.Lines.{state_word}
use Rattle.sheet_reader.specs.Values.{SheetList}
use Rattle.sheet_page.specs.Json.{amount, comma_at, truth, candidate_json, won_json, lost_json, standing_json}
use Rattle.sheet_page.specs.JsonGrammar.{Truth, IsTextOf, closed}
use Rattle.sheet_page.specs.JsonText.{string_text}
use Rattle.sheet_page.specs.JsonValues.{candidate_value, standing_value}
use Rattle.sheet_page.specs.Values.{name_at, defeats}
use Rattle.sheet_page.proofs.JsonParts.{onto, joined-onto, said-text}

-- a member: its key as a string, a colon and the text of its value
abbrev pub member : (name text : List ℕ) → List ℕ
member name text = name ++ 58 ∷ text

-- members between brackets
abbrev pub members : List (List ℕ) → List ℕ
members pieces = 123 ∷ closed pieces 125

pub truth-text : (mark : Bool) → IsTextOf (Truth mark) (truth mark)
truth-text true = refl
truth-text false = refl

-- ---- a candidate of the roll

abbrev pub candidate_pieces : SheetList → (p : ℕ) → List (List ℕ)
candidate_pieces v p =
    member (codes "\"number\"") (decimal (p + 1)) ∷ member (codes "\"name\"") (string_text (name_at v p))
    ∷ member (codes "\"outcome\"") (string_text (state_word (state_at v.last p))) ∷ []

pub candidate-written : (v : SheetList) (p : ℕ) → candidate_json v p ≡ comma_at p ++ members (candidate_pieces v p)
candidate-written v p = refl

pub candidate-is :
    (v : SheetList) (p : ℕ) → p < MOST_CANDIDATES
    → IsTextOf (candidate_value v p) (members (candidate_pieces v p))
candidate-is v p few = (
  candidate_pieces v p,
  refl,
  (
    (codes "\"number\"", decimal (p + 1), refl, refl, (omega (arith, few), refl)),
    (
      (codes "\"name\"", string_text (name_at v p), refl, refl, said-text (name_at v p)),
      (
        (
          codes "\"outcome\"",
          string_text (state_word (state_at v.last p)),
          refl,
          refl,
          said-text (state_word (state_at v.last p)),
        ),
        refl,
      ),
    ),
  ),
)

-- ---- a candidate in an iteration

abbrev pub standing_pieces : (places : ℕ) → Row → (p : ℕ) → List (List ℕ)
standing_pieces places row p =
    member (codes "\"number\"") (decimal (p + 1))
    ∷ member (codes "\"state\"") (string_text (state_word (state_at row.states p)))
    ∷ member (codes "\"keep\"") (amount places (slice_index row.keeps p))
    ∷ member (codes "\"vote\"") (amount places (slice_index row.votes p))
    ∷ member (codes "\"elected\"") (truth (mark_at row.elected p))
    ∷ member (codes "\"capped\"") (truth (mark_at row.capped p))
    ∷ member (codes "\"tied\"") (truth (mark_at row.tied p))
    ∷ member (codes "\"defeated\"") (truth (defeats row.step (p + 1))) ∷ []

abbrev pub vote_parts : (places : ℕ) → Row → (p : ℕ) → List (List ℕ)
vote_parts places row p =
    comma_at p ∷ codes "{\"number\":" ∷ decimal (p + 1) ∷ codes ",\"state\":"
    ∷ string_text (state_word (state_at row.states p))
    ∷ codes ",\"keep\":" ∷ amount places (slice_index row.keeps p) ∷ codes ",\"vote\":" ∷ amount places (slice_index row.votes p) ∷ []

abbrev pub won_parts : (elected capped : List ℕ) → List (List ℕ)
won_parts elected capped = codes ",\"elected\":" ∷ elected ∷ codes ",\"capped\":" ∷ capped ∷ []

pub standing-written : (places : ℕ) (row : Row) (p : ℕ) → standing_json places row p ≡ comma_at p ++ members (standing_pieces places row p)
standing-written places row p =
    let lost = lost_json (truth (mark_at row.tied p)) (truth (defeats row.step (p + 1))) in
    let elected = truth (mark_at row.elected p) in
    let capped = truth (mark_at row.capped p) in
    joined-onto (vote_parts places row p) (won_json elected capped ++ lost)
    ∙ ap (onto (vote_parts places row p)) (joined-onto (won_parts elected capped) lost)

pub standing-is : (places : ℕ) (row : Row) (p : ℕ) → p < MOST_CANDIDATES → IsTextOf (standing_value places row p) (members (standing_pieces places row p))
standing-is places row p few = (
  standing_pieces places row p,
  refl,
  (
    (codes "\"number\"", decimal (p + 1), refl, refl, (omega (arith, few), refl)),
    (
      (
        codes "\"state\"",
        string_text (state_word (state_at row.states p)),
        refl,
        refl,
        said-text (state_word (state_at row.states p)),
      ),
      (
        (codes "\"keep\"", amount places (slice_index row.keeps p), refl, refl, said-text (text_of places (slice_index row.keeps p))),
        (
          (codes "\"vote\"", amount places (slice_index row.votes p), refl, refl, said-text (text_of places (slice_index row.votes p))),
          (
            (codes "\"elected\"", truth (mark_at row.elected p), refl, refl, truth-text (mark_at row.elected p)),
            (
              (codes "\"capped\"", truth (mark_at row.capped p), refl, refl, truth-text (mark_at row.capped p)),
              (
                (codes "\"tied\"", truth (mark_at row.tied p), refl, refl, truth-text (mark_at row.tied p)),
                (
                  (
                    codes "\"defeated\"",
                    truth (defeats row.step (p + 1)),
                    refl,
                    refl,
                    truth-text (defeats row.step (p + 1)),
                  ),
                  refl,
                ),
              ),
            ),
          ),
        ),
      ),
    ),
  ),
)
