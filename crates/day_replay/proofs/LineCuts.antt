-- A text up to its first line feed.
use Rattle.std.proofs.Common.{◌≡◌, ◌≢◌, ℕ, ◌+◌, ◌<◌, Bool, cond, List, [], ◌∷◌, ◌++◌, length, take, drop, get_or}
use Rattle.std.proofs.Common.{refl, sym, ap, ◌∙◌}
use Rattle.std.proofs.lemmas.Bool.{ne_eqb, eq-eqb}
use Rattle.std.proofs.lemmas.List.{append_assoc, take_more, drop_more}
use Rattle.sheet_check.specs.Difference.{first_line, behind_line}

-- The first so many bytes are of the first line, and it goes on.
pub record IsInLine (at : ℕ) (text : List ℕ) : Type 0 where
  pub line : first_line text ≡ take at text ++ first_line (drop at text)
  pub rest : behind_line text ≡ behind_line (drop at text)

pub line_begins : (text : List ℕ) → IsInLine 0 text
line_begins text = record { line = refl; rest = refl }

byte_first : (b : ℕ) (bs : List ℕ) → b ≢ 10 → (first_line (b ∷ bs) ≡ b ∷ first_line bs) × (behind_line (b ∷ bs) ≡ behind_line bs)
byte_first b bs other =
    let no = ne_eqb b 10 other in
    (ap (λ (t : Bool). b ∷ cond t [] (first_line bs)) no, ap (λ (t : Bool). cond t bs (behind_line bs)) no)

feed_first : (b : ℕ) (bs : List ℕ) → b ≡ 10 → (first_line (b ∷ bs) ≡ b ∷ []) × (behind_line (b ∷ bs) ≡ bs)
feed_first b bs is =
    let yes = eq-eqb b 10 is in
    (ap (λ (t : Bool). b ∷ cond t [] (first_line bs)) yes, ap (λ (t : Bool). cond t bs (behind_line bs)) yes)

pub line_goes_on : (text : List ℕ) (at : ℕ) → at < length text → get_or text at 0 ≢ 10 → IsInLine at text → IsInLine (at + 1) text
line_goes_on text at below other is =
    let b = get_or text at 0 in
    let bs = drop (at + 1) text in
    let split : drop at text ≡ b ∷ bs = drop_more text at 0 below in
    let first = byte_first b bs other in
    record {
      line =
          is.line
          ∙ (ap (λ (l : List ℕ). take at text ++ first_line l) split
          ∙ (ap (λ (l : List ℕ). take at text ++ l) first.0
          ∙ (sym (append_assoc (take at text) (b ∷ []) (first_line bs))
          ∙ ap (λ (l : List ℕ). l ++ first_line bs) (sym (take_more text at 0 below)))));
      rest = is.rest ∙ (ap behind_line split ∙ first.1);
    }

pub line_ends :
    (text : List ℕ) (at : ℕ) → at < length text → get_or text at 0 ≡ 10 → IsInLine at text
    → (take (at + 1) text ≡ first_line text) × (drop (at + 1) text ≡ behind_line text)
line_ends text at below feed is =
    let b = get_or text at 0 in
    let bs = drop (at + 1) text in
    let split : drop at text ≡ b ∷ bs = drop_more text at 0 below in
    let first = feed_first b bs feed in (
      take_more text at 0 below
          ∙ (ap (λ (l : List ℕ). take at text ++ l) (sym first.0)
          ∙ (ap (λ (l : List ℕ). take at text ++ first_line l) (sym split) ∙ sym is.line)),
      sym first.1 ∙ (ap behind_line (sym split) ∙ sym is.rest),
    )
