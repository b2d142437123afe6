-- The records of a head, one after another.
use Rattle.std.proofs.Common.{◌≡◌, ℕ, zero, suc, ◌+◌, ◌-◌, ◌<◌, ◌≤◌, List, [], ◌∷◌, ◌++◌, map, take, drop, length}
use Rattle.std.proofs.Common.{Option, Some, None, Result, Ok, Err, refl, ap, sym, ◌∙◌, subst, arith, add-one}
use Rattle.std.specs.List.{last_or, slice_get}
use Rattle.std.specs.Option.{option_map, option_or}
use Rattle.std.proofs.lemmas.List.{map-append}
use Rattle.table_text.specs.Reading as text
use Rattle.table_text.specs.declared.text_fault.TextFault.{TextFault}
use Rattle.ballot_table.specs.declared.sheet.Place.{Place}
use Rattle.ballot_table.specs.declared.table_asked.TableAsked.{TableAsked}
use Rattle.ballot_table.specs.declared.table_stop.TableStop.{TableStop}
use Rattle.ballot_table.specs.declared.table_stop.TableStop.TheVariants as stop
use Rattle.ballot_table.specs.Imported.{expected_after, headed_at, head_ended, reading_stop, stop_under, text_stop, texts_in, IsTableStop}
use Rattle.ballot_table.specs.Sheets.{Opened, Turns, left_after, row_at, IsLastOf}

-- what is at a place of a list is the next of what is left after so many
pub record IsNextOf {X : Type 0} (n : ℕ) (xs : List X) (x : X) (rest : List X) : Type 0 where
  pub taken : take (suc n) xs ≡ take n xs ++ x ∷ []
  pub left : drop (suc n) xs ≡ rest
  pub there : slice_get xs n ≡ Some x

pub one_more : {X : Type 0} (n : ℕ) (xs : List X) (x : X) (rest : List X) → drop n xs ≡ x ∷ rest → IsNextOf n xs x rest
one_more zero [] x rest is = absurd (cc is)
one_more zero (y ∷ ys) x rest is =
    let same : y ≡ x = cc is in
    record { taken = ap (λ z. z ∷ []) same; left = cc is; there = ap Some same }
one_more (suc n) [] x rest is = absurd (cc is)
one_more (suc n) (y ∷ ys) x rest is =
    let more = one_more n ys x rest is in
    record { taken = ap (λ l. y ∷ l) more.taken; left = more.left; there = more.there }

none_there : {X : Type 0} (n m : ℕ) (xs : List X) → drop n xs ≡ [] → n ≤ m → slice_get xs m ≡ None
none_there n m [] none le = refl
none_there zero m (x ∷ xs) none le = absurd (cc none)
none_there (suc n) zero (x ∷ xs) none le = absurd (omega (arith, le))
none_there (suc n) (suc m) (x ∷ xs) none le = none_there n m xs none (omega (arith, le))

all_taken : {X : Type 0} (n : ℕ) (xs : List X) → drop n xs ≡ [] → take n xs ≡ xs
all_taken zero [] none = refl
all_taken zero (x ∷ xs) none = absurd (cc none)
all_taken (suc n) [] none = refl
all_taken (suc n) (x ∷ xs) none = ap (λ l. x ∷ l) (all_taken n xs none)

pub last_pushed : {X : Type 0} (o : Option X) (xs : List X) (x : X) → last_or o (xs ++ x ∷ []) ≡ Some x
last_pushed o [] x = refl
last_pushed o (y ∷ ys) x = last_pushed (Some y) ys x

module _ (a : TableAsked) (reading : text.Reading) (n : ℕ) (few : n < a.heads) where
  -- too few records for a head
  too_few : drop n reading.rows ≡ [] → reading_stop a reading ≡ option_or (text_stop reading.ending) (head_ended reading.rows)
  too_few none =
      ap (λ o. stop_under a reading (option_map (headed_at a.heads reading.rows) o))
      (none_there n (a.heads - 1) reading.rows none (omega (arith, few)))

  pub ends_early : (ended : TableStop) → left_after n reading ≡ text.ends text.AtEnd
      → IsTableStop (head_ended (take n reading.rows)) ended → IsTableStop (reading_stop a reading) ended
  ends_early ended left is =
      let none = ap (λ (r : text.Reading). r.rows) left in
      let end = ap (λ (r : text.Reading). r.ending) left in
      subst (λ o. IsTableStop o ended)
      (ap head_ended (all_taken n reading.rows none)
      ∙ sym (too_few none ∙ ap (λ e. option_or (text_stop e) (head_ended reading.rows)) end)) is

  pub breaks : (fault : TextFault) → left_after n reading ≡ text.ends (text.AtFault fault)
      → reading_stop a reading ≡ Some (stop.Text fault)
  breaks fault left =
      too_few (ap (λ (r : text.Reading). r.rows) left)
      ∙ ap (λ (r : text.Reading). option_or (text_stop r.ending) (head_ended reading.rows)) left

  pub breaks_off : (old new : Opened) (found : TableStop) → old.records.rest ≡ left_after n reading
      → Turns old (Err found) new → IsTableStop (reading_stop a reading) found
  breaks_off old new (stop.Text fault) is turns = breaks fault (sym is ∙ turns)
  breaks_off old new stop.NoMemory is turns = tt
  breaks_off old new (stop.Word _ _) is turns = elim turns [ ]
  breaks_off old new (stop.Record _ _ _ _) is turns = elim turns [ ]

-- one more record
module _ (reading : text.Reading) (n : ℕ) (row : text.Row) (rest : text.Reading)
    (left : left_after n reading ≡ text.with_row row rest)
  where
    next : IsNextOf n reading.rows row rest.rows
    next = one_more n reading.rows row rest.rows (ap (λ (r : text.Reading). r.rows) left)

    pub rest_more : rest ≡ left_after (n + 1) reading
    rest_more =
        let rows = sym next.left ∙ ap (λ k. drop k reading.rows) (sym (add-one n)) in
        λ i. record { rows = rows i; ending = sym (ap (λ (r : text.Reading). r.ending) left) i }

    taken_is : take (n + 1) reading.rows ≡ take n reading.rows ++ row ∷ []
    taken_is = ap (λ k. take k reading.rows) (add-one n) ∙ next.taken

    pub texts_more : (texts : List (List (List ℕ))) (fields : List (List ℕ)) → texts ≡ map texts_in (take n reading.rows)
        → fields ≡ texts_in row → texts ++ fields ∷ [] ≡ map texts_in (take (n + 1) reading.rows)
    texts_more texts fields so_far is =
        (λ i. so_far i ++ is i ∷ [])
        ∙ sym (ap (map texts_in) taken_is ∙ map-append texts_in (take n reading.rows) (row ∷ []))

    pub last_is : slice_get reading.rows (n + 1 - 1) ≡ Some row
    last_is = ap (slice_get reading.rows) (omega arith) ∙ next.there

    pub ended_is : head_ended (take (n + 1) reading.rows) ≡ Some (expected_after row)
    ended_is = ap head_ended taken_is ∙ ap (option_map expected_after) (last_pushed None (take n reading.rows) row)
