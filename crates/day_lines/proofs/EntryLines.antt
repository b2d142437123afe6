-- The lines of answered calls, one after another.
use Rattle.std.proofs.Common.{◌≡◌, ℕ, suc, ◌+◌, ◌<◌, List, [], ◌∷◌, ◌++◌, length, take, drop, get_or, Option}
use Rattle.std.proofs.Common.{arith, sym, ap, subst, ◌∙◌, map, append_assoc, append-nil}
use Rattle.std.specs.Prelude.{Result, Ok, Err, OnErr}
use Rattle.std.specs.List.{enumerate_from, flat_map}
use Rattle.std.specs.Io.KnownBytes.{Appends}
use Rattle.std.proofs.KnownBytes.{Appends-trans}
use Rattle.std.proofs.lemmas.List.{map-append, take_more, take-append-drop, length-take-le}
use Rattle.std.proofs.lemmas.List.Concat.{flat_map-append}
use Rattle.batch_core.specs.declared.entry.Entry.{Entry}
use Rattle.byte_edge.specs.Bytes.{AppendsFront}
use Rattle.sheet_text.specs.Lines.{ended}
use Rattle.day_lines.specs.EntryText.{entry_line, entries_text}

enumerate_from-append :
    {X : Type 0} (n : ℕ) (xs ys : List X)
    → enumerate_from n (xs ++ ys) ≡ enumerate_from n xs ++ enumerate_from (n + length xs) ys
enumerate_from-append n [] ys = let e : n ≡ n + 0 = omega arith in ap (λ (k : ℕ). enumerate_from k ys) e
enumerate_from-append {X} n (x ∷ xs) ys =
    let e : n + 1 + length xs ≡ n + suc (length xs) = omega arith in
    ap (λ (l : List (ℕ × X)). (n, x) ∷ l)
    (enumerate_from-append (n + 1) xs ys
    ∙ ap (λ (k : ℕ). enumerate_from (n + 1) xs ++ enumerate_from k ys) e)

abbrev line_of : ℕ × Entry → List ℕ
line_of x = entry_line x.0 x.1

-- the text of calls with their numbers
abbrev text_of : List (ℕ × Entry) → List ℕ
text_of calls = flat_map ended (map line_of calls)

text_of-append : (xs ys : List (ℕ × Entry)) → text_of (xs ++ ys) ≡ text_of xs ++ text_of ys
text_of-append xs ys =
    ap (flat_map ended) (map-append line_of xs ys) ∙ flat_map-append ended (map line_of xs) (map line_of ys)

entries_text-append :
    (history more : List Entry)
    → entries_text (history ++ more) ≡ entries_text history ++ text_of (enumerate_from (1 + length history) more)
entries_text-append history more =
    ap text_of (enumerate_from-append 1 history more)
    ∙ text_of-append (enumerate_from 1 history) (enumerate_from (1 + length history) more)

-- one line more
pub text_more :
    (history : List Entry) (i : ℕ) (e : Entry) → i < length history → e ≡ get_or history i e
    → entries_text (take (i + 1) history) ≡ entries_text (take i history) ++ ended (entry_line (i + 1) e)
text_more history i e below is =
    let front : take (i + 1) history ≡ take i history ++ e ∷ [] =
    take_more history i e below ∙ ap (λ (x : Entry). take i history ++ x ∷ []) (sym is) in
    let place : 1 + length (take i history) ≡ i + 1 =
    (let long = length-take-le i history (omega arith) in omega (arith, long)) in
    ap entries_text front ∙ (entries_text-append (take i history) (e ∷ [])
    ∙ (ap (λ (k : ℕ). entries_text (take i history) ++ text_of ((k, e) ∷ [])) place
    ∙ ap (λ (l : List ℕ). entries_text (take i history) ++ l) (append-nil (ended (entry_line (i + 1) e)))))

pub appends_more :
    (a b c : Option (List ℕ)) (history : List Entry) (i : ℕ) (e : Entry) → i < length history
    → e ≡ get_or history i e
    → Appends a b (entries_text (take i history)) → Appends b c (ended (entry_line (i + 1) e))
    → Appends a c (entries_text (take (i + 1) history))
appends_more a b c history i e below is done next =
    subst (λ (t : List ℕ). Appends a c t) (sym (text_more history i e below is))
    (Appends-trans a b c (entries_text (take i history)) (ended (entry_line (i + 1) e)) done next)

-- a failure within a line
pub stopped_at :
    (a b c : Option (List ℕ)) (history : List Entry) (i : ℕ) (e : Entry) → i < length history
    → e ≡ get_or history i e
    → Appends a b (entries_text (take i history)) → AppendsFront b c (ended (entry_line (i + 1) e))
    → AppendsFront a c (entries_text history)
stopped_at a b c history i e below is done next =
    let before = entries_text (take i history) in
    let front = next.0 in
    let rest = next.1 in
    let more = text_of (enumerate_from (1 + length (take (i + 1) history)) (drop (i + 1) history)) in
    let whole : entries_text history ≡ entries_text (take (i + 1) history) ++ more =
    ap entries_text (sym (take-append-drop (i + 1) history))
    ∙ entries_text-append (take (i + 1) history) (drop (i + 1) history) in
    let line : entries_text (take (i + 1) history) ≡ (before ++ front) ++ rest =
    text_more history i e below is ∙ (ap (λ (l : List ℕ). before ++ l) next.2 ∙ sym (append_assoc before front rest)) in (
      before ++ front,
      rest ++ more,
      whole ∙ (ap (λ (l : List ℕ). l ++ more) line ∙ append_assoc (before ++ front) rest more),
      Appends-trans a b c before front done next.3,
    )

pub on_err : {T E : Type 0} (r : Result T E) (X : Type 0) → X → OnErr r X
on_err (Ok value) X x = tt
on_err (Err stop) X x = x
