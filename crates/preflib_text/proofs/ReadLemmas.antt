-- An order that is read part by part.
use Rattle.std.proofs.Common.{◌≡◌, ◌≢◌, ℕ, ◌≤◌, List, Option, Some, None, Err}
use Rattle.std.proofs.Common.{refl, ap, sym, ◌∙◌, arith}
use Rattle.std.specs.List.{filter_map, range_with_len}
use Rattle.plain_ballots.specs.declared.limits.TheConstants.{MOST_BALLOTS, MOST_CANDIDATES}
use Rattle.preflib_text.specs.declared.expected.Expected.{Expected}
use Rattle.preflib_text.specs.declared.expected.Expected.TheVariants as expected
use Rattle.preflib_text.specs.declared.part.Found.{Found}
use Rattle.preflib_text.specs.declared.part.Part.{Part}
use Rattle.preflib_text.specs.declared.part.Part.TheVariants as code
use Rattle.preflib_text.specs.declared.pref_kind.PrefKind.{PrefKind}
use Rattle.preflib_text.specs.Orders.{count_fault, number_fault, part_fault}
use Rattle.preflib_text.specs.Parts as parts
use Rattle.preflib_text.specs.Reading.{capped, kept, behind_part, parts_from, IsFirst}
use Rattle.preflib_text.specs.Standing.{Stand, next, next_by, standing_fault, seen, unless_misplaced, read}

-- all parts of a line are those from its front on
pub all_parts : (bytes : List ℕ) → parts.parts bytes ≡ parts_from bytes 0
all_parts bytes = ap (λ k. filter_map (parts.part_at bytes) (range_with_len 0 k)) (omega arith)

same_count : (room n : ℕ) → room ≤ MOST_BALLOTS → count_fault room (capped n) ≡ count_fault room n
same_count room n few = grind arith

same_number : (candidates n : ℕ) (others : List ℕ) → candidates ≤ MOST_CANDIDATES
    → number_fault candidates others (capped n) ≡ number_fault candidates others n
same_number candidates n others few = grind arith

kept_count : (room n : ℕ) → room ≤ MOST_BALLOTS → count_fault room n ≡ None → capped n ≡ n
kept_count room n few sound = grind arith

kept_number : (candidates n : ℕ) (others : List ℕ) → candidates ≤ MOST_CANDIDATES
    → number_fault candidates others n ≡ None → capped n ≡ n
kept_number candidates n others few sound = grind arith

not_end : (bytes : List ℕ) (p : Part) (stop : ℕ) → p ≢ code.End → behind_part bytes p stop ≡ parts_from bytes stop
not_end bytes (code.Number n) stop other = refl
not_end bytes code.Colon stop other = refl
not_end bytes code.Comma stop other = refl
not_end bytes code.Open stop other = refl
not_end bytes code.Close stop other = refl
not_end bytes code.Meta stop other = refl
not_end bytes code.Wrong stop other = refl
not_end bytes code.End stop other = absurd (other refl)

module _ (room : ℕ) (s : Stand) (few : room ≤ MOST_BALLOTS) (small : s.candidates ≤ MOST_CANDIDATES) where
  abbrev fault_at : Expected → parts.Part → Option PrefKind
  fault_at e part = part_fault room s.candidates s.listed e part

  number_by : (e : Expected) (n : ℕ) → fault_at e (parts.Number (capped n)) ≡ fault_at e (parts.Number n)
  number_by expected.Count n = same_count room n few
  number_by expected.BehindCount n = refl
  number_by expected.Item n = same_number s.candidates n s.listed small
  number_by expected.BehindItem n = refl
  number_by expected.Number n = same_number s.candidates n s.listed small
  number_by expected.BehindNumber n = refl

  same_fault : (part : parts.Part) → standing_fault room s (seen (kept part)) ≡ standing_fault room s part
  same_fault (parts.Number n) = number_by s.expected n
  same_fault parts.Colon = refl
  same_fault parts.Comma = refl
  same_fault parts.Open = refl
  same_fault parts.Close = refl
  same_fault parts.Meta = refl
  same_fault parts.Wrong = refl
  same_fault parts.End = refl

  next_number : (e : Expected) (at n : ℕ) → fault_at e (parts.Number n) ≡ None
      → next_by e s at (parts.Number (capped n)) ≡ next_by e s at (parts.Number n)
  next_number expected.Count at n sound =
      ap (λ k. next_by expected.Count s at (parts.Number k)) (kept_count room n few sound)
  next_number expected.BehindCount at n sound = refl
  next_number expected.Item at n sound =
      ap (λ k. next_by expected.Item s at (parts.Number k)) (kept_number s.candidates n s.listed small sound)
  next_number expected.BehindItem at n sound = refl
  next_number expected.Number at n sound =
      ap (λ k. next_by expected.Number s at (parts.Number k)) (kept_number s.candidates n s.listed small sound)
  next_number expected.BehindNumber at n sound = refl

  same_next : (at : ℕ) (part : parts.Part) → standing_fault room s part ≡ None
      → next s at (seen (kept part)) ≡ next s at part
  same_next at (parts.Number n) sound = next_number s.expected at n sound
  same_next at parts.Colon sound = refl
  same_next at parts.Comma sound = refl
  same_next at parts.Open sound = refl
  same_next at parts.Close sound = refl
  same_next at parts.Meta sound = refl
  same_next at parts.Wrong sound = refl
  same_next at parts.End sound = refl

  module _ (bytes : List ℕ) (from : ℕ) (found : Found) (first : IsFirst bytes from found) where
    real_fault : standing_fault room s first.part ≡ standing_fault room s (seen found.part)
    real_fault = sym (same_fault first.part) ∙ ap (λ p. standing_fault room s (seen p)) (sym first.kept_is)

    abbrev behind : List parts.Placed
    behind = behind_part bytes found.part found.stop

    read_on : (o : Option PrefKind) → standing_fault room s (seen found.part) ≡ o
        → read room s (parts_from bytes from)
        ≡ unless_misplaced o found.at (read room (next s found.at first.part) behind)
    read_on o is =
        ap (read room s) first.parts_are
        ∙ ap (λ f. unless_misplaced f found.at (read room (next s found.at first.part) behind)) (real_fault ∙ is)

    pub misplaced : (kind : PrefKind) → standing_fault room s (seen found.part) ≡ Some kind
        → read room s (parts_from bytes from) ≡ Err (record { kind = kind; at = found.at })
    misplaced kind is = read_on (Some kind) is

    pub goes_on : (new : Stand) → standing_fault room s (seen found.part) ≡ None
        → new ≡ next s found.at (seen found.part) → found.part ≢ code.End
        → read room s (parts_from bytes from) ≡ read room new (parts_from bytes found.stop)
    goes_on new sound is other =
        let real : standing_fault room s first.part ≡ None = real_fault ∙ sound in
        let same : next s found.at first.part ≡ new =
        sym (same_next found.at first.part real) ∙ ap (λ p. next s found.at (seen p)) (sym first.kept_is) ∙ sym is in
        read_on None sound
        ∙ ap (λ x. read room x behind) same
        ∙ ap (read room new) (not_end bytes found.part found.stop other)
