use Rattle.std.proofs.Common.{◌≡◌, ℕ, ◌+◌, List, [], ◌∷◌, length, refl, sym, ap, ◌∙◌, subst}
use Rattle.std.proofs.lemmas.List.{length-append}
use Rattle.batch_core.specs.declared.entry.Entry.{Entry}
use Rattle.sheet_check.specs.Difference.{first_line}
use Rattle.day_replay.specs.Nearest.{HasSaid}
use Rattle.day_replay.specs.Saying.{Says}
use Rattle.day_replay.proofs.Way.{IsNextLine, first_is_next, next_is_next, nobody_said, said_more}
use Rattle.day_replay.proofs.following.follow_lines.Goals as goal

pub lines-init : goal.lines-init
lines-init c = record {
  candidates = refl;
  teams = c.requires.teams;
  answerable = c.requires.answerable;
  way = λ scripts way. way;
  said = subst (HasSaid c.args.text.now) (sym c.requires.begins) (nobody_said c.args.text.now);
  next =
      subst (λ (h : List Entry). IsNextLine c.args.text.now c.next_line.result.0.now c.next_line.result.1.now (length h))
      (sym c.requires.begins)
      (subst (λ (l : List ℕ). IsNextLine c.args.text.now l c.next_line.result.1.now 0) (sym c.next_line.ensures.line)
      (subst (λ (l : List ℕ). IsNextLine c.args.text.now (first_line c.args.text.now) l 0) (sym c.next_line.ensures.rest) (first_is_next c.args.text.now)));
}

pub lines-preserved : goal.lines-preserved
lines-preserved c =
    let so_far = c.lines.invariant in
    let made = c.in_ok-make.ensures in
    let old = c.lines.replay.history in
    let new = c.make.new.replay.history in
    let long : length new ≡ length old + 1 = ap length made.one.2 ∙ length-append old (made.one.0 ∷ []) in
    let named = c.in-Some.ensures in
    let says : Says (length old + 1) c.in-Some.team c.lines.line.now =
    subst (λ (n : ℕ). Says (n + 1) c.in-Some.team c.lines.line.now) c.calls.ensures.calls named.2 in
    record {
      candidates = made.candidates ∙ so_far.candidates;
      teams = made.teams;
      answerable = made.answerable;
      way = λ scripts way. made.way scripts (so_far.way scripts way);
      said =
          said_more c.args.text.now old new c.in-Some.team so_far.said named.0 made.one
          (subst (Says (length old + 1) c.in-Some.team) so_far.next.line_is says);
      next =
          subst (λ (l : List ℕ). IsNextLine c.args.text.now l c.next_line-in-Some.result.1.now (length new))
          (sym c.next_line-in-Some.ensures.line)
          (subst (λ (l : List ℕ). IsNextLine c.args.text.now (first_line c.lines.rest.now) l (length new)) (sym c.next_line-in-Some.ensures.rest)
          (next_is_next c.args.text.now c.lines.line.now c.lines.rest.now (length old) (length new) so_far.next long));
    }
