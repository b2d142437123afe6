-- A table of batches that follows a book.
use Rattle.std.proofs.Common.{◌⊎◌, inl, inr, ◌≡◌, ◌≢◌, ℕ, zero, suc, ◌+◌, ◌-◌, ◌<◌, ◌≤◌, ◌==◌, true, false}
use Rattle.std.proofs.Common.{cond, List, [], ◌∷◌, ◌++◌, All, length, take}
use Rattle.std.proofs.Common.{get_or, set, replicate, refl, sym, ap, subst, ◌∙◌, arith}
use Rattle.std.specs.Prelude.{Option, Some, None, slice_get}
use Rattle.std.specs.List.{flat_map, range_with_len}
use Rattle.std.proofs.lemmas.Bool.{ne_eqb}
use Rattle.std.proofs.lemmas.Bool.Decides.{eqb_tells}
use Rattle.std.proofs.lemmas.Grind.{flat_map-append, get_or-set_at, take_at_read}
use Rattle.std.proofs.lemmas.Option.{slice_get-get_or}
use Rattle.std.proofs.lemmas.List.{append-nil, get_or-set_other, get_or-replicate, length-replicate}
use Rattle.std.proofs.lemmas.List.Elements.{All-replicate}
use Rattle.batch_core.specs.declared.batch.Batch.{Batch}
use Rattle.batch_core.specs.declared.change.Change.{Change}
use Rattle.batch_core.specs.declared.call.Call.TheVariants as call
use Rattle.batch_core.specs.Book.{BookState, batch_of, change_after, change_reply, changed, after, empty, strike, last_batch}
use Rattle.batch_core.specs.declared.entry.Entry.{Entry}
use Rattle.batch_core.specs.Histories.{after_all}
use Rattle.batch_core.specs.Laws.{LeadsOn}
use Rattle.day_text.specs.declared.batch_end.BatchEnd.{BatchEnd}
use Rattle.day_text.specs.End.{Follows, IsRevised, IsTable, DayEndList, batch_end, batch_ends, end_of, if_any}

-- ---- a range

range_more : (a n : ℕ) → range_with_len a (suc n) ≡ range_with_len a n ++ (a + n) ∷ []
range_more a zero = ap (λ (k : ℕ). k ∷ []) {x = a} {y = a + 0} (omega arith)
range_more a (suc n) =
    ap (λ (l : List ℕ). a ∷ l) (range_more (a + 1) n)
    ∙ ap (λ (k : ℕ). a ∷ (range_with_len (a + 1) n ++ k ∷ [])) {x = a + 1 + n} {y = a + suc n} (omega arith)

-- one batch number more
pub ends_more :
    (book : BookState) (n : ℕ)
    → batch_ends book (n + 1) ≡ batch_ends book n ++ if_any (batch_end (n + 1) (book.batches (n + 1)))
ends_more book n =
    let f : ℕ → List BatchEnd = λ number. if_any (batch_end number (book.batches number)) in
    let number : 1 + n ≡ n + 1 = omega arith in
    ap (λ (k : ℕ). flat_map f (range_with_len 1 k)) {x = n + 1} {y = suc n} (omega arith)
    ∙ (ap (λ (l : List ℕ). flat_map f l) (range_more 1 n)
    ∙ (flat_map-append f (range_with_len 1 n) ((1 + n) ∷ [])
    ∙ ap (λ (l : List BatchEnd). batch_ends book n ++ l) (append-nil (f (1 + n)) ∙ ap f number)))

-- an item within a list, whatever stands beyond its end
pub get_any : {X : Type 0} (xs : List X) (i : ℕ) (d e : X) → i < length xs → get_or xs i d ≡ get_or xs i e
get_any [] i d e below = absurd (omega (arith, below))
get_any (x ∷ xs) zero d e below = refl
get_any (x ∷ xs) (suc i) d e below = get_any xs i d e (omega (arith, below))

-- ---- a table

-- a table of no batch
pub empty_table : (table : List (Option BatchEnd)) → table ≡ replicate 9999 None → IsTable table
empty_table table is = record {
  long = ap length is ∙ length-replicate {A = Option BatchEnd} 9999 None;
  revised = subst (All IsRevised) (sym is) (All-replicate {X = Option BatchEnd} IsRevised 9999 None tt);
}

-- before the first call
pub follows_empty : (table : List (Option BatchEnd)) (struck : List ℕ) → table ≡ replicate 9999 None → struck ≡ []
    → Follows table struck empty
follows_empty table struck is none = record {
  batches = λ number some few.
      ap (λ (t : List (Option BatchEnd)). get_or t (number - 1) None) is
      ∙ get_or-replicate 9999 (number - 1) None None (omega (arith, some, few));
  struck_are = none;
}

-- after a change of a batch within the table
pub follows_change :
    (old new : List (Option BatchEnd)) (struck : List ℕ) (change : Change) (end : Option BatchEnd) (at : ℕ)
    → length old ≡ 9999 → 1 ≤ batch_of change → batch_of change ≤ 9999 → at ≡ batch_of change - 1 → new ≡ set old at end
    → ((batch : Option Batch) → get_or old at None ≡ batch_end (batch_of change) batch
    → end ≡ batch_end (batch_of change) (change_after batch change (change_reply batch change)))
    → (book : BookState) → Follows old struck book → Follows new struck (after book (call.Change change))
follows_change old new struck change end at long some few place is renewed book follows = record {
  batches = λ number least most. by number least most (eqb_tells number (batch_of change));
  struck_are = follows.struck_are;
}
  where
    mine : end ≡ batch_end (batch_of change) (change_after (book.batches (batch_of change)) change
        (change_reply (book.batches (batch_of change)) change))
    mine =
        renewed (book.batches (batch_of change))
        (ap (λ (k : ℕ). get_or old k None) place ∙ follows.batches (batch_of change) some few)

    kept : Option Batch
    kept = change_after (book.batches (batch_of change)) change (change_reply (book.batches (batch_of change)) change)

    by :
        (number : ℕ) → 1 ≤ number → number ≤ 9999
        → (((number == batch_of change) ≡ true) × (number ≡ batch_of change))
        ⊎ (((number == batch_of change) ≡ false) × (number ≢ batch_of change))
        → get_or new (number - 1) None ≡ batch_end number (changed book.batches change number)
    by number least most (inl same) =
        ap (λ (t : List (Option BatchEnd)). get_or t (number - 1) None) is
        ∙ (get_or-set_at old at (number - 1) end None (omega (arith, place, same.1)) (omega (arith, place, some, few, long))
        ∙ (mine ∙ (λ i. batch_end (sym same.1 i) (cond (sym same.0 i) kept (book.batches number)))))
    by number least most (inr other) =
        ap (λ (t : List (Option BatchEnd)). get_or t (number - 1) None) is
        ∙ (get_or-set_other old at (number - 1) end None
        (λ e. other.1 (omega (arith, e, place, least, some)))
        ∙ (follows.batches number least most
        ∙ (λ i. batch_end number (cond (sym other.0 i) kept (book.batches number)))))

-- after a change of a batch that the table has not
pub follows_beyond :
    (table : List (Option BatchEnd)) (struck : List ℕ) (change : Change)
    → ((number : ℕ) → 1 ≤ number → number ≤ 9999 → number ≢ batch_of change)
    → (book : BookState) → Follows table struck book → Follows table struck (after book (call.Change change))
follows_beyond table struck change beyond book follows = record {
  batches = λ number least most.
      follows.batches number least most
      ∙ (λ i. batch_end number (cond (sym (ne_eqb number (batch_of change) (beyond number least most)) i)
      (change_after (book.batches (batch_of change)) change (change_reply (book.batches (batch_of change)) change))
      (book.batches number)));
  struck_are = follows.struck_are;
}

-- after a strike
pub follows_strike :
    (old new : List (Option BatchEnd)) (struck others : List ℕ) (candidate : ℕ) → new ≡ old
    → others ≡ strike struck candidate → (book : BookState) → Follows old struck book
    → Follows new others (after book (call.Strike candidate))
follows_strike old new struck others candidate same is book follows = record {
  batches = λ number least most.
      ap (λ (t : List (Option BatchEnd)). get_or t (number - 1) None) same ∙ follows.batches number least most;
  struck_are = is ∙ ap (λ (s : List ℕ). strike s candidate) follows.struck_are;
}

-- after one call more of a history
pub follows_next :
    (history : List Entry) (at : ℕ) (e : Entry) (table : List (Option BatchEnd)) (struck : List ℕ)
    → LeadsOn → at < length history → slice_get history at ≡ Some e
    → Follows table struck (after (after_all empty (take at history)) e.call)
    → Follows table struck (after_all empty (take (at + 1) history))
follows_next history at e table struck leads below got follows =
    let same : get_or history at e ≡ e = some_same (sym (slice_get-get_or history at e below) ∙ got) in
    subst (λ (book : BookState). Follows table struck book)
    (sym (leads (take at history) e)
    ∙ ap (λ (h : List Entry). after_all empty h)
    (ap (λ (x : Entry). take at history ++ x ∷ []) (sym same) ∙ sym (take_at_read history at e below).1)) follows
  where
    some_same : {x y : Entry} → Some x ≡ Some y → x ≡ y
    some_same is = cc

-- all batches, and who is struck
pub all_ends :
    (book : BookState) (batches : List BatchEnd) (struck : List ℕ) (n : ℕ) → batches ≡ batch_ends book n → n ≡ 9999
    → struck ≡ book.struck → ◌≡◌ {A = DayEndList} (record { batches = batches; struck = struck }) (end_of book)
unfolding last_batch
all_ends book batches struck n is all struck_are =
    λ i. record { batches = (is ∙ ap (λ (k : ℕ). batch_ends book k) all) i; struck = struck_are i }
