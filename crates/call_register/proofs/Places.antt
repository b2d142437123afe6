-- Which call is at the place of a mark.
use Rattle.std.proofs.Common.{◌≡◌, ℕ, zero, suc, ◌+◌, ◌≤◌, ◌<◌, Some, List, [], ◌∷◌, ◌++◌, length, drop, refl}
use Rattle.std.proofs.Common.{sym, ap, ◌∙◌, subst, arith, length-append}
use Rattle.std.specs.Prelude.{filter, slice_get}
use Rattle.std.proofs.lemmas.List.Elements.{filter-append}
use Rattle.batch_core.specs.declared.entry.Entry.{Entry}
use Rattle.batch_core.specs.Book.{strike}
use Rattle.call_register.specs.Marks.{is_mark_of, marks_of, struck_by}
use Rattle.call_register.specs.Walk.{left}
use Rattle.call_register.specs.Weaving.{HaveEntries, Lists, first, without_first, weave_from, weave}
use Rattle.call_register.specs.Weaving.{freeze_entry, strike_entry}
use Rattle.call_register.specs.declared.mark.Mark.{Mark}
use Rattle.call_register.specs.declared.mark.Mark.TheVariants.{Shard, Freeze, Strike}
use Rattle.call_register.proofs.Woven.{enough_rest, marks-here}
use Rattle.call_register.proofs.Sights.{weave-append, left_is}

-- where each mark has its entry, there are as many entries as marks
pub length_woven :
    (struck : List ℕ) (marks : List Mark) (lists : Lists) → HaveEntries marks lists
    → length (weave_from struck marks lists) ≡ length marks
length_woven struck [] lists enough = refl
length_woven struck (Freeze c ∷ marks) lists enough = ap suc (length_woven struck marks lists enough)
length_woven struck (Strike c k ∷ marks) lists enough = ap suc (length_woven (strike struck k) marks lists enough)
length_woven struck (Shard s ∷ marks) lists enough =
    let more = length_woven struck marks (without_first lists s) (enough_rest s marks lists enough) in
    by_list (lists s) (subst (λ n. n ≤ length (lists s)) (marks-here s s marks refl) (enough s))
    (weave_from struck marks (without_first lists s)) more
  where
    by_list :
        (l : List Entry) → suc (marks_of s marks) ≤ length l → (m : List Entry) → length m ≡ length marks
        → length (first l ++ m) ≡ suc (length marks)
    by_list [] le m same = absurd (omega arith)
    by_list (e ∷ es) le m same = ap suc same

at_drop : (xs : List Entry) (k : ℕ) → k < length xs → (e : Entry) × (first (drop k xs) ≡ e ∷ []) × (slice_get xs k ≡ Some e)
at_drop [] k lt = absurd (omega arith)
at_drop (x ∷ xs) zero lt = (x, refl, refl)
at_drop (x ∷ xs) (suc k) lt = at_drop xs k (omega arith)

at_end : (xs ys : List Entry) (e : Entry) → slice_get (xs ++ e ∷ ys) (length xs) ≡ Some e
at_end [] ys e = refl
at_end (x ∷ xs) ys e = at_end xs ys e

-- what the mark stands for, once the marks before it have their entries
at_mark : (before after : List Mark) (m : Mark) (lists : Lists) (e : Entry) (more : List Entry) → HaveEntries before lists
    → weave_from (struck_by before) (m ∷ after) (left before lists) ≡ e ∷ more
    → slice_get (weave (before ++ m ∷ after) lists) (length before) ≡ Some e
at_mark before after m lists e more enough next =
    let whole : weave (before ++ m ∷ after) lists ≡ weave before lists ++ e ∷ more =
    weave-append [] before (m ∷ after) lists ∙ ap (λ l. weave before lists ++ l) next in
    (λ i. slice_get (whole i) (sym (length_woven [] before lists enough) i)) ∙ at_end (weave before lists) more e

-- a shard's mark stands for the entry that has as many before it as the shard has marks before this one
pub change_at : (s : ℕ) (before after : List Mark) (lists : Lists) → HaveEntries (before ++ Shard s ∷ after) lists
    → slice_get (weave (before ++ Shard s ∷ after) lists) (length before) ≡ slice_get (lists s) (marks_of s before)
change_at s before after lists enough =
    let split : (t : ℕ) → marks_of t (before ++ Shard s ∷ after) ≡ marks_of t before + marks_of t (Shard s ∷ after) = λ t.
    ap length (filter-append (is_mark_of t) before (Shard s ∷ after))
    ∙ length-append (filter (is_mark_of t) before) (filter (is_mark_of t) (Shard s ∷ after)) in
    let front : HaveEntries before lists = λ t. let a = enough t in let b = split t in omega arith in
    let inside : marks_of s before < length (lists s) =
    let a = enough s in let b = split s in let c = marks-here s s after refl in omega arith in
    let there = at_drop (lists s) (marks_of s before) inside in
    let next = weave_from (struck_by before) after (without_first (left before lists) s) in
    let here : first (left before lists s) ≡ there.0 ∷ [] = ap first (left_is s before lists) ∙ there.1 in
    at_mark before after (Shard s) lists there.0 next front (ap (λ l. l ++ next) here) ∙ sym there.2

pub freeze_at : (c : ℕ) (before after : List Mark) (lists : Lists) → HaveEntries before lists
    → slice_get (weave (before ++ Freeze c ∷ after) lists) (length before) ≡ Some (freeze_entry c)
freeze_at c before after lists enough =
    at_mark before after (Freeze c) lists (freeze_entry c)
    (weave_from (struck_by before) after (left before lists)) enough refl

pub strike_at : (c k : ℕ) (before after : List Mark) (lists : Lists) → HaveEntries before lists
    → slice_get (weave (before ++ Strike c k ∷ after) lists) (length before) ≡ Some (strike_entry (struck_by before) c k)
strike_at c k before after lists enough =
    at_mark before after (Strike c k) lists (strike_entry (struck_by before) c k)
    (weave_from (strike (struck_by before) k) after (left before lists)) enough refl
