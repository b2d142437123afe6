-- A text says its number of places, where it has an iteration.
use Rattle.std.proofs.Common.{◌≡◌, ℕ, ◌≤◌, List, [], ◌∷◌, ◌++◌, length, refl, sym, ◌∙◌, ap, subst, arith, ◌/◌, ◌%◌}
use Rattle.std.specs.Prelude.{◌≢◌, codes, decimal, All}
use Rattle.std.proofs.lemmas.List.Elements.{All-head, All-nil}
use Rattle.fixed_place.specs.Rounding.{scale, most}
use Rattle.fixed_place.specs.Text.{text_of, last_digits}
use Rattle.meek_rule.specs.Row.{Row}
use Rattle.sheet_text.specs.Lines.{row_lines, text_of_lines}
use Rattle.sheet_text.specs.Sheet.{sheet_lines}
use Rattle.sheet_reader.specs.Form.{IsPrintableRow}
use Rattle.sheet_reader.specs.Laws.{IterationsSayTheirPlaces, NoIterationSaysNoPlaces}
use Rattle.sheet_reader.specs.Parts.{rows_lines, standing_at}
use Rattle.sheet_reader.specs.Values.{lines_of, roll_of}
use Rattle.sheet_reader.proofs.Cuts.{cut_once, decimal_without}
use Rattle.sheet_reader.proofs.Digits.{length-last_digits, whole_small}
use Rattle.sheet_reader.proofs.FormValues.{number_once}
use Rattle.sheet_reader.proofs.LineParts.{heads, behind_front, behind_places}
use Rattle.sheet_reader.proofs.ReadRow.{in_parts, behind_numbers, behind_standings}
use Rattle.sheet_reader.proofs.ReadSheet.{behind_counts, behind_title, outcomes_of, rows_of}
use Rattle.sheet_reader.proofs.RowLines.{row_not_result, rows_cons}
use Rattle.sheet_reader.proofs.SheetLines.{form_lines}

-- an amount has as many digits after its point as there are places
amount_says :
    (one other u w : ℕ) → one ≤ 9 → other ≤ 9 → u ≤ most one → w ≤ most other → text_of one u ≡ text_of other w
    → one ≡ other
unfolding text_of
amount_says one other u w few fits small little same =
    let digits =
    cut_once 46 (decimal (u / scale one)) (decimal (w / scale other)) (last_digits one (u % scale one))
    (last_digits other (w % scale other))
    (decimal_without 46 (u / scale one) (omega arith) (omega (arith, whole_small one u few small)))
    (decimal_without 46 (w / scale other) (omega arith) (omega (arith, whole_small other w fits little))) same in
    sym (length-last_digits one (u % scale one)) ∙ ap length digits.1 ∙ length-last_digits other (w % scale other)

-- an iteration prints its total
row_says_places :
    (one other n : ℕ) (row again : Row) (rest behind : List (List ℕ)) → one ≤ 9 → other ≤ 9 → IsPrintableRow one n row
    → IsPrintableRow other n again → row_lines one row ++ rest ≡ row_lines other again ++ behind → one ≡ other
row_says_places one other n row again rest behind few fits is also e =
    let numbers =
    heads _ _ (behind_numbers one n row rest) (behind_numbers other n again behind)
    (sym (in_parts one row rest is.of_all.states refl) ∙ in_parts other again behind also.of_all.states e) in
    let standings =
    behind_places (standing_at one row.states row.keeps row.votes)
    (standing_at other again.states again.keeps again.votes) n (behind_standings one row rest)
    (behind_standings other again behind) numbers.1 in
    let total = heads (codes "total " ++ text_of one row.total) (codes "total " ++ text_of other again.total) _ _ standings in
    amount_says one other row.total again.total few fits is.total also.total
    (behind_front (codes "total ") (text_of one row.total) (text_of other again.total) total.0)

-- so where the first of some iterations is the first of others, at other places, the places are the same
rows_say_places :
    (one other n : ℕ) (rows others : List Row) (rest behind : List (List ℕ)) → one ≤ 9 → other ≤ 9
    → All (IsPrintableRow one n) rows → All (IsPrintableRow other n) others
    → rows_lines one rows ++ codes "result" ∷ rest ≡ rows_lines other others ++ codes "result" ∷ behind → rows ≢ []
    → one ≡ other
rows_say_places one other n [] others rest behind few fits p q e some = absurd (some refl)
rows_say_places one other n (r ∷ rows) [] rest behind few fits p q e some =
    absurd (row_not_result one r (rows_lines one rows ++ codes "result" ∷ rest) behind
    (sym (rows_cons one r rows (codes "result" ∷ rest)) ∙ e))
rows_say_places one other n (r ∷ rows) (o ∷ others) rest behind few fits p q e some =
    row_says_places one other n r o (rows_lines one rows ++ codes "result" ∷ rest)
    (rows_lines other others ++ codes "result" ∷ behind) few fits
    (All-head (IsPrintableRow one n) r rows p) (All-head (IsPrintableRow other n) o others q)
    (sym (rows_cons one r rows (codes "result" ∷ rest)) ∙ e ∙ rows_cons other o others (codes "result" ∷ behind))

pub iterations_say : IterationsSayTheirPlaces
iterations_say one other bytes v w at_least few from fits is also some =
    let title =
    heads (codes "title " ++ v.title) (codes "title " ++ w.title) (behind_title one v) (behind_title other w)
    (sym (form_lines one bytes v few is) ∙ form_lines other bytes w fits also) in
    let seats = heads (codes "seats " ++ decimal v.seats) (codes "seats " ++ decimal w.seats) _ _ title.1 in
    let candidates =
    heads (codes "candidates " ++ decimal (length v.names))
    (codes "candidates " ++ decimal (length w.names)) _ _ seats.1 in
    let ballots =
    heads (codes "ballots " ++ decimal v.ballots) (codes "ballots " ++ decimal w.ballots)
    (behind_counts one v) (behind_counts other w) candidates.1 in
    let same : length v.names ≡ length w.names =
    number_once (codes "candidates ") (length v.names) (length w.names) (omega (arith, is.in_range.candidates.1))
    (omega (arith, also.in_range.candidates.1)) candidates.0 in
    rows_say_places one other (length v.names) v.rows w.rows (outcomes_of v) (outcomes_of w) few fits is.in_range.rows
    (rows_of other (length v.names) bytes w same also) ballots.1 some

pub no_iteration_says : NoIterationSaysNoPlaces
no_iteration_says one other bytes v is none = record {
  in_range = record {
    title = is.in_range.title;
    seats = is.in_range.seats;
    ballots = is.in_range.ballots;
    candidates = is.in_range.candidates;
    names = is.in_range.names;
    rows =
        subst (λ (rows : List Row). All (IsPrintableRow other (length v.names)) rows) (sym none)
        (All-nil (IsPrintableRow other (length v.names)));
    last = is.in_range.last;
  };
  text = is.text ∙ ap (λ (ls : List (List ℕ)). text_of_lines ls) same;
}
  where
    same : lines_of one v ≡ lines_of other v
    same =
        (λ i. sheet_lines one (roll_of v) v.ballots (none i) v.last)
        ∙ sym (λ i. sheet_lines other (roll_of v) v.ballots (none i) v.last)
