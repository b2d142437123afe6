use Rattle.std.proofs.Common.{◌∙◌, ℕ, ◌+◌, Bool, ap, arith, drop, length, sym}
use Rattle.std.specs.Prelude.{◌||◌}
use Rattle.std.specs.Str.{chars}
use Rattle.std.proofs.lemmas.Iterator.{YieldsList-from_chars}
use Rattle.std.proofs.lemmas.Iterator.Consumers.{YieldsList-turn, YieldsList-end}
use Rattle.std.proofs.lemmas.List.{at_drop_all, length_push}
use Rattle.ballot_findings.specs.Signs.{is_blank, is_unusual, last_or}
use Rattle.ballot_findings.proofs.Windows.{last_one, or_first, or_next, spaced_ill, spaced_one}
use Rattle.ballot_findings.proofs.odd.has_unusual_blanks.Goals as goal

pub returns-then-is_unusual : goal.returns-then-is_unusual
returns-then-is_unusual c =
    let text = chars c.args.text.now in
    let n = length c.loop-character.yielded in
    let t =
    YieldsList-turn (YieldsList-from_chars c.args.text.now c.utf8.text cc) c.loop-character.yielded _
    c.loop-character.yielded_by _ _ c.in-Some.character c.in-Some.is c.next.ensures.steps in
    let b = c.loop-character.before in
    let found = sym c.is_unusual.ensures ∙ c.if-is_unusual.true in
    let whole =
    sym c.loop-character.invariant.spaced
    ∙ (spaced_one text n c.in-Some.character t b
    ∙ or_first (is_unusual b c.in-Some.character) (spaced_ill c.in-Some.character (drop (n + 1) text)) found) in
    sym (ap (λ (x : Bool). x || is_blank (last_or 0 text)) whole)

pub loop-character-preserved : goal.loop-character-preserved
loop-character-preserved c =
    let text = chars c.args.text.now in
    let n = length c.loop-character.yielded in
    let x = c.in-Some.character in
    let t =
    YieldsList-turn (YieldsList-from_chars c.args.text.now c.utf8.text cc) c.loop-character.yielded _
    c.loop-character.yielded_by _ _ x c.in-Some.is c.next.ensures.steps in
    let b = c.loop-character.before in
    let more = length_push c.loop-character.yielded x in
    let past = sym c.is_unusual.ensures ∙ c.if-is_unusual.false in
    record {
      spaced =
          ap (λ (k : ℕ). spaced_ill x (drop k text)) more
          ∙ (sym (or_next (is_unusual b x) (spaced_ill x (drop (n + 1) text)) past)
          ∙ (sym (spaced_one text n x t b) ∙ c.loop-character.invariant.spaced));
      last =
          ap (λ (k : ℕ). last_or x (drop k text)) more
          ∙ (sym (last_one text n x t c.loop-character.last) ∙ c.loop-character.invariant.last);
    }

pub returns : goal.returns
returns c =
    let text = chars c.args.text.now in
    let n = length c.loop-character.yielded in
    let t =
    YieldsList-end (YieldsList-from_chars c.args.text.now c.utf8.text cc) c.loop-character.yielded _
    c.loop-character.yielded_by _ _ c.in-None.is c.next.ensures.steps in
    let b = c.loop-character.before in
    let none = sym (at_drop_all (spaced_ill b) text n (omega (arith, t.1))) ∙ c.loop-character.invariant.spaced in
    let last = sym (at_drop_all (last_or c.loop-character.last) text n (omega (arith, t.1))) ∙ c.loop-character.invariant.last in
    c.is_blank.ensures
    ∙ (ap is_blank last ∙ ap (λ (x : Bool). x || is_blank (last_or 0 text)) none)
