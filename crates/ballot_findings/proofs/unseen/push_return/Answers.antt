use Rattle.std.proofs.Common.{◌≡◌, ◌∙◌, ℕ, ◌+◌, ◌-◌, List, [], ◌++◌, ap, append-nil, arith, length, subst, sym}
use Rattle.std.specs.Prelude.{OnOk, codes}
use Rattle.std.specs.List.{range_with_len}
use Rattle.ballot_findings.specs.Lines.{place_line}
use Rattle.ballot_findings.specs.Unseen.{first_lone, is_lone, return_lines}
use Rattle.ballot_findings.proofs.Firstly.{first_here, first_past, range_front, range_none}
use Rattle.ballot_findings.proofs.unseen.push_return.Goals as goal

abbrev line : (input : List ℕ) → (place : ℕ) → List ℕ
line input = place_line input (codes "look line ends with a carriage return alone") []

pub returns-then-is_lone : goal.returns-then-is_lone
returns-then-is_lone c =
    let input = c.args.input.now in
    let p = c.loop-place.place in
    let n = length input in
    let found =
    first_here (is_lone input) (line input) p (range_with_len (p + 1) (n - (p + 1))) (sym c.is_lone.ensures ∙ c.if-is_lone.true) in
    let same =
    sym c.loop-place.invariant.same ∙ (ap (first_lone input) (range_front p n c.loop-place-test.true) ∙ found) in
    subst (λ (t : List ℕ). OnOk c.push_place.result (c.push_place.new.text ≡ t ++ return_lines input))
    c.loop-place.invariant.text
    (subst (λ (l : List ℕ). OnOk c.push_place.result (c.push_place.new.text ≡ c.loop-place.text ++ l)) (sym same)
    c.push_place.ensures)

pub loop-place-preserved : goal.loop-place-preserved
loop-place-preserved c =
    let input = c.args.input.now in
    let p = c.loop-place.place in
    let n = length input in
    let past =
    first_past (is_lone input) (line input) p (range_with_len (p + 1) (n - (p + 1)))
    (sym c.is_lone.ensures ∙ c.if-is_lone.false) in
    record {
      text = c.loop-place.invariant.text;
      same =
          sym past
          ∙ (sym (ap (first_lone input) (range_front p n c.loop-place-test.true)) ∙ c.loop-place.invariant.same);
    }

pub returns : goal.returns
returns c =
    let input = c.args.input.now in
    let p = c.loop-place.place in
    let none =
    sym c.loop-place.invariant.same
    ∙ ap (first_lone input) (range_none p (length input) (omega (arith, c.loop-place-test.false))) in
    c.loop-place.invariant.text
    ∙ (sym (append-nil c.args.text.now) ∙ ap (λ (l : List ℕ). c.args.text.now ++ l) (sym none))
