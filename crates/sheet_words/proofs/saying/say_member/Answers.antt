use Rattle.std.proofs.Common.{◌≡◌, ◌∙◌, ap, sym, subst, ℕ, ◌+◌, Bool, true, List, [], ◌++◌, slice_index}
use Rattle.std.specs.Prelude.{if◌then◌else◌}
use Rattle.meek_rule.specs.Row.{Row}
use Rattle.piece_text.specs.Writing.{Wrote, Writes}
use Rattle.sheet_reader.specs.Values.{SheetList}
use Rattle.sheet_words.specs.declared.group.Group.{Group}
use Rattle.sheet_words.specs.Groups.{is_in, members_from}
use Rattle.sheet_words.specs.Manner.{said}
use Rattle.sheet_words.specs.Phrases.{called, member, separator, with_votes}
use Rattle.sheet_words.proofs.Written.{later, stops, said_nothing}
use Rattle.sheet_words.proofs.saying.say_member.Goals as goal

-- the votes of a candidate, and what is after them
abbrev votes_of : (places : ℕ) → Row → Group → (p : ℕ) → List (List ℕ)
votes_of places row group p = with_votes places (slice_index row.votes p) (separator (members_from row group (p + 1)))

shown :
    (places : ℕ) (v : SheetList) (row : Row) (group : Group) (p : ℕ) → is_in row group p ≡ true
    → called v p ++ votes_of places row group p ≡ member places v row group p
shown places v row group p is = sym (ap (λ (b : Bool). if b then called v p ++ votes_of places row group p else []) is)

pub returns-then-not-is_in : goal.returns-then-not-is_in
returns-then-not-is_in g c =
    let v = c.args.values.now in
    let row = c.args.row.now in
    let group = c.args.group in
    let p = c.args.p in
    subst (λ (l : List (List ℕ)). Wrote g.K.Sink.written g.K.Sink.faults c.args.sink.now c.args.sink.now
    (said g.V.Voice.manner l))
    (sym (ap (λ (b : Bool). if b then called v p ++ votes_of g.row.P row group p else [])
    (sym c.is_in.ensures ∙ c.if-not-is_in.true)))
    (said_nothing _ _ _ _)

pub returns-in_err-say_called : goal.returns-in_err-say_called
returns-in_err-say_called g c =
    let row = c.args.row.now in
    let group = c.args.group in
    subst (λ (l : List (List ℕ)). Writes g.K.Sink.written g.K.Sink.faults c.args.sink.now c.say_called.new.sink
    (said g.V.Voice.manner l) c.from_residual.result)
    (shown g.row.P c.args.values.now row group c.args.p (sym c.is_in.ensures ∙ c.if-not-is_in.false))
    (stops _ _ (votes_of g.row.P row group c.args.p) _ c.from_residual.ensures.0 c.in_err-say_called.ensures)

pub returns : goal.returns
returns g c =
    let v = c.args.values.now in
    let row = c.args.row.now in
    let group = c.args.group in
    let p = c.args.p in
    let votes = c.get.ensures ∙ ap (λ (r : Row). slice_index r.votes p) c.row.view_is in
    let behind = c.separator.ensures ∙ ap separator c.members_from-still.ensures in
    let same =
    ap (λ (n : ℕ). called v p ++ with_votes g.row.P n c.separator.result.now) votes
    ∙ ap (λ (l : List ℕ). called v p ++ with_votes g.row.P (slice_index row.votes p) l) behind
    ∙ shown g.row.P v row group p (sym c.is_in.ensures ∙ c.if-not-is_in.false) in
    subst (λ (l : List (List ℕ)). Writes g.K.Sink.written g.K.Sink.faults c.args.sink.now c.say_votes.new.sink
    (said g.V.Voice.manner l) c.say_votes.result) same
    (later _ _ _ (with_votes g.row.P c.get.result.now c.separator.result.now) _ c.in_ok-say_called.ensures c.say_votes.ensures)
