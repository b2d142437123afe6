-- Two notes of one board.
use Rattle.std.proofs.Common.{◌≡◌, ℕ, List, sym, ap, ◌∙◌, subst}
use mathlib.Core.List.{IsPrefix}
use Rattle.logbook.specs.Pages.{Book}
use Rattle.tally_board.specs.declared.line.Line.{Line}
use Rattle.tally_board.specs.declared.note.Note.TheInside.{Inside}
use Rattle.tally_board.specs.contracts.note.Note.{the_view}
use Rattle.tally_board.specs.Begins.{Begins}
use Rattle.tally_board.specs.Lines.{moves_from, key_after, IsUnspent}
use Rattle.tally_board.specs.Marks.{key_of}
use Rattle.tally_board.specs.Told.{Told}
use Rattle.tally_board.proofs.LineLemmas.{moves_begin, none_more}

-- where their book has reached both logs, the moves of each begin those of the log that it reached
pub both_begin : (one other : Inside) (t u : Told) → the_view one ≡ t → the_view other ≡ u → u.board ≡ t.board
    → (xs zs : List Line) → xs ≡ one.seen.log → IsPrefix xs zs → IsPrefix other.seen.log zs
    → Begins (the_view one).moves (moves_from (key_of one.home) zs)
    × Begins (the_view other).moves (moves_from (key_of one.home) zs)
both_begin one other t u e f same xs zs copied p q =
    let first : key_of other.home ≡ key_of one.home =
    ap (λ z. z.board.first) f ∙ (ap (λ z. z.first) same ∙ sym (ap (λ z. z.board.first) e)) in (
      moves_begin (key_of one.home) one.seen.log zs (subst (λ (l : List Line). IsPrefix l zs) copied p),
      subst (λ k. Begins (moves_from (key_of other.home) other.seen.log) (moves_from k zs)) first
          (moves_begin (key_of other.home) other.seen.log zs q),
    )

-- until the next key is spent, each note of the board begins what was seen of it
pub note_begins : (note : Inside) (t u : Told) (book : Book) (first : ℕ) (seen zs : List Line) → the_view note ≡ t
    → record { board = record { book = book; first = first }; moves = moves_from first seen } ≡ u
    → t.board ≡ u.board → IsPrefix note.seen.log zs → IsPrefix seen zs → IsUnspent (key_after first seen) zs
    → Begins t.moves u.moves
note_begins note t u book first seen zs e f same p q unspent =
    let one : key_of note.home ≡ first =
    ap (λ z. z.board.first) e ∙ (ap (λ z. z.first) same ∙ sym (ap (λ z. z.board.first) f)) in
    let told = moves_from (key_of note.home) note.seen.log in
    let begins : Begins told (moves_from first zs) =
    subst (λ k. Begins told (moves_from k zs)) one (moves_begin (key_of note.home) note.seen.log zs p) in
    let all = none_more first seen zs q unspent ∙ ap (λ z. z.moves) f in
    subst (λ ms. Begins ms u.moves) (ap (λ z. z.moves) e) (subst (Begins told) all begins)
