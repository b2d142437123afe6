-- An export's ballots, and what is written of them.
use Rattle.std.proofs.Common.{◌≡◌, ℕ, List, [], ◌∷◌, ◌++◌, length, take, drop, Option, Result, Ok, Err, IsErr}
use Rattle.std.proofs.Common.{refl, ap, sym, subst, ◌∙◌, append_assoc}
use Rattle.std.specs.Prelude.{IsPermutation}
use Rattle.std.specs.List.{flat_map}
use Rattle.std.proofs.lemmas.List.{take_at}
use Rattle.std.proofs.lemmas.List.Concat.{flat_map-append}
use Rattle.std.proofs.lemmas.List.Sorted.{IsPermutation-trans, IsPermutation-append_right, IsPermutation-append_comm}
use Rattle.byte_edge.specs.declared.failed.Failed.{Failed}
use Rattle.frozen_plan.specs.Plan.{PlanRows, all_ballots, plan_ballots}
use Rattle.piece_text.specs.Writing.{Wrote, Stopped, Writes}
use Rattle.piece_text.proofs.Written.{later, stops}
use Rattle.plain_ballots.specs.declared.ballot_line.BallotLine.{BallotLine}
use Rattle.plain_ballots.specs.Ballots.{plain}
use Rattle.blt_writer.specs.Exported.{Exported}
use Rattle.blt_writer.specs.Merge.{all_plain}
use Rattle.blt_writer.specs.Merged.{WritesLines}
use Rattle.blt_writer.specs.Text.{ballot_text, opening_text, closing_text, file_text}
use Rattle.blt_writer.specs.Written.{WritesText}
use Rattle.blt_writer.proofs.EveryText.{lines_of, are_lines_of}

-- one plan more has its cursor
pub plan_taken :
    (items more : List (List BallotLine)) (others rest : List PlanRows) (x : List BallotLine)
    (plan : PlanRows) (bag : List (List ℕ))
    → more ≡ items ++ x ∷ [] → others ≡ rest ++ plan ∷ [] → plain x ≡ plan_ballots plan.rows
    → IsPermutation (all_plain items ++ all_ballots others) bag → IsPermutation (all_plain more ++ all_ballots rest) bag
plan_taken items more others rest x plan bag more_is others_are same so_far =
    let ballots : PlanRows → List (List ℕ) = λ p. plan_ballots p.rows in
    let done = all_plain items in
    let left = all_ballots rest in
    let mine = plan_ballots plan.rows ++ [] in
    let front : all_plain more ≡ done ++ mine =
    ap all_plain more_is ∙ (flat_map-append plain items (x ∷ []) ∙ ap (λ (l : List (List ℕ)). done ++ (l ++ [])) same) in
    let behind : all_ballots others ≡ left ++ mine = ap all_ballots others_are ∙ flat_map-append ballots rest (plan ∷ []) in
    let start : all_plain more ++ left ≡ done ++ (mine ++ left) =
    ap (λ (l : List (List ℕ)). l ++ left) front ∙ append_assoc done mine left in
    subst (λ (l : List (List ℕ)). IsPermutation l bag) (sym start)
    (IsPermutation-trans _ _ _ (IsPermutation-append_right done _ _ (IsPermutation-append_comm mine left))
    (subst (λ (l : List (List ℕ)). IsPermutation (done ++ l) bag) behind so_far))

-- the lines before the ballots were not all written
pub opening_stopped :
    {S T E : Type 0} {w : S → Option (List ℕ)} {f : S → ℕ} {a b : S} (export : Exported) (r : Result T E) → IsErr r
    → Stopped w f a b (opening_text export.roll) → WritesText w f a b export r
opening_stopped export r failed stopped =
    let lines = lines_of export.ballots in
    record {
      text = file_text export.roll lines;
      is = (lines, are_lines_of export.ballots, refl);
      writes = stops (flat_map ballot_text lines ++ closing_text export.roll) r failed stopped;
    }

-- those of the ballots were not
pub lines_stopped :
    {S T E : Type 0} {w : S → Option (List ℕ)} {f : S → ℕ} {a b c : S} (export : Exported) (r : Result T E)
    (e : Failed) → IsErr r
    → Wrote w f a b (opening_text export.roll)
    → WritesLines {S = S} {T = Unit {0}} {E = Failed} w f b c export.ballots (Err e)
    → WritesText w f a c export r
lines_stopped {c} export r e failed wrote lines = record {
  text = file_text export.roll lines.lines;
  is = (lines.lines, lines.are, refl);
  writes = later c _ r wrote (stops (closing_text export.roll) r failed lines.writes);
}

-- nor those after them, or all were
pub closed :
    {S T E : Type 0} {w : S → Option (List ℕ)} {f : S → ℕ} {a b c d : S} (export : Exported) (r : Result T E) (v : Unit {0})
    → Wrote w f a b (opening_text export.roll)
    → WritesLines {S = S} {T = Unit {0}} {E = Failed} w f b c export.ballots (Ok v)
    → Writes w f c d (closing_text export.roll) r → WritesText w f a d export r
closed {d} export r v wrote lines closing = record {
  text = file_text export.roll lines.lines;
  is = (lines.lines, lines.are, refl);
  writes = later d _ r wrote (later d _ r lines.writes closing);
}

-- what is written back into a whole list
pub written_back : {X : Type 0} (new old : List X) (n : ℕ) → length new ≡ n → take n (new ++ drop (length new) old) ≡ new
written_back new old n long = take_at new (drop (length new) old) n long
