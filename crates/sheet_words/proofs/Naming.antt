-- Who is named in sentences.
use Rattle.std.proofs.Common.{◌≡◌, ◌∙◌, ap, sym, subst, refl, arith, ℕ, zero, suc, ◌+◌, ◌-◌, ◌<◌, ◌≤◌, Bool}
use Rattle.std.proofs.Common.{true, false, cond, List, [], ◌∷◌, ◌++◌, length, get_or, append_assoc, eqb-true}
use Rattle.std.proofs.Common.{eq-eqb, ne_eqb, slice_index}
use Rattle.std.specs.Prelude.{count_by, codes, if◌then◌else◌, nat_eq}
use Rattle.std.specs.List.{flat_map, range_with_len}
use Rattle.std.proofs.lemmas.List.FromFn.{get_or-range_with_len, length-range_with_len}
use Rattle.std.proofs.lemmas.List.Sums.{sum_by-cons, sum_by-append}
use Rattle.lot_order.specs.Flags.{mark_at}
use Rattle.meek_rule.specs.Row.{Row}
use Rattle.meek_rule.specs.declared.step.Step.{Step}
use Rattle.meek_rule.specs.declared.step.Step.TheVariants.{Elected, Iterate, Defeat}
use Rattle.sheet_reader.specs.Values.{SheetList}
use Rattle.sheet_words.specs.declared.decision.Decision.{Decision}
use Rattle.sheet_words.specs.declared.decision.Decision.TheVariants.{Election, Arrival, Choice, Cap}
use Rattle.sheet_words.specs.declared.decision.Decision.TheVariants.{Defeat as Defeats, Tie, Lot}
use Rattle.sheet_words.specs.declared.group.Group.{Group}
use Rattle.sheet_words.specs.declared.group.Group.TheVariants.{Elected as Winners, Capped, LeftOut}
use Rattle.sheet_words.specs.Groups.{is_in, members, members_from, all_places}
use Rattle.sheet_words.specs.Phrases.{called, listing, member, separator, with_votes}
use Rattle.sheet_words.specs.Sentences.{caps, chosen, decisions_of, defeats_of, elections, has_tie, seated}
use Rattle.sheet_words.specs.Sentences.{seats_for_them, sentence, with_fewest}
use Rattle.sheet_words.specs.Laws.{HasOneSentence, Names, says_defeated, says_elected}

-- ---- names

named_before : (v : SheetList) (p : ℕ) (xs ys : List (List ℕ)) → Names v p xs → Names v p (xs ++ ys)
named_before v p xs ys names = (
  names.0,
  names.1 ++ ys,
  ap (λ (l : List (List ℕ)). l ++ ys) names.2
      ∙ append_assoc names.0 (called v p ++ names.1) ys
      ∙ ap (λ (l : List (List ℕ)). names.0 ++ l) (append_assoc (called v p) names.1 ys),
)

named_behind : (v : SheetList) (p : ℕ) (xs ys : List (List ℕ)) → Names v p ys → Names v p (xs ++ ys)
named_behind v p xs ys names = (
  xs ++ names.0,
  names.1,
  ap (λ (l : List (List ℕ)). xs ++ l) names.2 ∙ sym (append_assoc xs names.0 (called v p ++ names.1)),
)

-- the items of one of many
one_of :
    {X : Type 0} (m : X → List (List ℕ)) (v : SheetList) (p : ℕ) (xs : List X) (i : ℕ) (d : X) → i < length xs
    → Names v p (m (get_or xs i d)) → Names v p (flat_map m xs)
one_of m v p [] i d below names = absurd (omega arith)
one_of m v p (x ∷ xs) zero d below names = named_before v p (m x) (flat_map m xs) names
one_of m v p (x ∷ xs) (suc i) d below names =
    named_behind v p (m x) (flat_map m xs) (one_of m v p xs i d (omega arith) names)

listed :
    (places : ℕ) (v : SheetList) (row : Row) (group : Group) (p : ℕ) → p < length row.states → is_in row group p ≡ true
    → Names v p (listing places v row group)
listed places v row group p below is =
    let n = length row.states in
    let at : get_or (all_places n) p 0 ≡ p = get_or-range_with_len 0 n p 0 below ∙ omega arith in
    let votes = with_votes places (slice_index row.votes p) (separator (members_from row group (p + 1))) in
    let here : Names v p (member places v row group p) =
    ([], votes, ap (λ (b : Bool). if b then called v p ++ votes else []) is) in
    one_of (member places v row group) v p (all_places n) p 0 (omega (arith, length-range_with_len 0 n))
    (subst (λ (q : ℕ). Names v p (member places v row group q)) (sym at) here)

-- ---- how many sentences

some_count :
    {X : Type 0} (test : X → Bool) (xs : List X) (i : ℕ) (d : X) → i < length xs → test (get_or xs i d) ≡ true
    → 1 ≤ count_by test xs
some_count test [] i d below is = absurd (omega arith)
some_count test (x ∷ xs) zero d below is =
    let here : count_by test (x ∷ xs) ≡ 1 + count_by test xs =
    sum_by-cons (λ y. cond (test y) 1 0) x xs ∙ ap (λ (b : Bool). cond b 1 0 + count_by test xs) is in
    omega (arith, here)
some_count test (x ∷ xs) (suc i) d below is =
    let here : count_by test (x ∷ xs) ≡ cond (test x) 1 0 + count_by test xs = sum_by-cons (λ y. cond (test y) 1 0) x xs in
    omega (arith, here, some_count test xs i d (omega arith) is)

some_member :
    (row : Row) (group : Group) (p : ℕ) → p < length row.states → is_in row group p ≡ true
    → nat_eq (members row group) 0 ≡ false
some_member row group p below is =
    let n = length row.states in
    let at : get_or (all_places n) p 0 ≡ p = get_or-range_with_len 0 n p 0 below ∙ omega arith in
    let all : n - 0 ≡ n = omega arith in
    let some : 1 ≤ members row group =
    subst (λ (k : ℕ). 1 ≤ count_by (is_in row group) (range_with_len 0 k)) (sym all)
    (some_count (is_in row group) (all_places n) p 0 (omega (arith, length-range_with_len 0 n))
    (ap (is_in row group) at ∙ is)) in
    ne_eqb (members row group) 0 (λ e. absurd (omega arith))

-- the sentences of an iteration that say something, by its three parts
by_parts :
    (says : Decision → Bool) (row : Row)
    → count_by says (decisions_of row)
    ≡ count_by says (elections row) + (count_by says (caps row) + count_by says (defeats_of row row.step))
by_parts says row =
    let test = λ (d : Decision). cond (says d) 1 0 in
    sum_by-append test (elections row) (caps row ++ defeats_of row row.step)
    ∙ ap (λ (k : ℕ). count_by says (elections row) + k) (sum_by-append test (caps row) (defeats_of row row.step))

one_elected :
    (none all : Bool) → none ≡ false
    → count_by says_elected (if none then [] else if all then Election ∷ [] else Arrival ∷ Choice ∷ []) ≡ 1
one_elected true all is = absurd (cc)
one_elected false true is = refl
one_elected false false is = refl

not_capped : (none : Bool) → count_by says_elected (if none then [] else Cap ∷ []) ≡ 0
not_capped true = refl
not_capped false = refl

not_defeated : (row : Row) (step : Step) → count_by says_elected (defeats_of row step) ≡ 0
not_defeated row Elected = refl
not_defeated row Iterate = refl
not_defeated row (Defeat c) = by (has_tie row)
  where
    by : (b : Bool) → count_by says_elected (if b then Tie ∷ Lot c ∷ [] else Defeats c ∷ []) ≡ 0
    by true = refl
    by false = refl

pub winners :
    (places : ℕ) (v : SheetList) (row : Row) (p : ℕ) → p < length row.states → mark_at row.elected p ≡ true
    → HasOneSentence places says_elected v row p
winners places v row p below is = record {
  one =
      let elected =
      one_elected (nat_eq (members row Winners) 0) (nat_eq (members row LeftOut) 0)
      (some_member row Winners p below is) in
      let capped = not_capped (nat_eq (members row Capped) 0) in
      let defeated = not_defeated row row.step in
      omega (arith, by_parts says_elected row, elected, capped, defeated);
  named = named;
}
  where
    named : (d : Decision) → says_elected d ≡ true → Names v p (sentence places v row d)
    named Election says = named_before v p (listing places v row Winners) (seated places row) (listed places v row Winners p below is)
    named Arrival says = absurd (cc)
    named Choice says =
        named_behind v p (seats_for_them v row) (listing places v row Winners ++ chosen row)
        (named_before v p (listing places v row Winners) (chosen row) (listed places v row Winners p below is))
    named Cap says = absurd (cc)
    named (Defeats c) says = absurd (cc)
    named Tie says = absurd (cc)
    named (Lot c) says = absurd (cc)

-- ---- defeats

none_elected :
    (c : ℕ) (none all : Bool)
    → count_by (says_defeated c) (if none then [] else if all then Election ∷ [] else Arrival ∷ Choice ∷ [])
    ≡ 0
none_elected c true all = refl
none_elected c false true = refl
none_elected c false false = refl

none_capped : (c : ℕ) (none : Bool) → count_by (says_defeated c) (if none then [] else Cap ∷ []) ≡ 0
none_capped c true = refl
none_capped c false = refl

one_alone : (c : ℕ) (d : Decision) → says_defeated c d ≡ true → count_by (says_defeated c) (d ∷ []) ≡ 1
one_alone c d says = sum_by-cons (λ e. cond (says_defeated c e) 1 0) d [] ∙ ap (λ (b : Bool). cond b 1 0 + 0) says

one_defeated : (c : ℕ) (tied : Bool) → count_by (says_defeated c) (if tied then Tie ∷ Lot c ∷ [] else Defeats c ∷ []) ≡ 1
one_defeated c true =
    let test = λ (d : Decision). cond (says_defeated c d) 1 0 in
    sum_by-cons test Tie (Lot c ∷ []) ∙ ap (λ (k : ℕ). 0 + k) (one_alone c (Lot c) (eq-eqb c c refl))
one_defeated c false = one_alone c (Defeats c) (eq-eqb c c refl)

pub losers : (places : ℕ) (v : SheetList) (row : Row) (c : ℕ) → row.step ≡ Defeat c → HasOneSentence places (says_defeated c) v row (c - 1)
losers places v row c is = record {
  one =
      let elected = none_elected c (nat_eq (members row Winners) 0) (nat_eq (members row LeftOut) 0) in
      let capped = none_capped c (nat_eq (members row Capped) 0) in
      let defeated : count_by (says_defeated c) (defeats_of row row.step) ≡ 1 =
      ap (λ (step : Step). count_by (says_defeated c) (defeats_of row step)) is ∙ one_defeated c (has_tie row) in
      omega (arith, by_parts (says_defeated c) row, elected, capped, defeated);
  named = named;
}
  where
    named : (d : Decision) → says_defeated c d ≡ true → Names v (c - 1) (sentence places v row d)
    named Election says = absurd (cc)
    named Arrival says = absurd (cc)
    named Choice says = absurd (cc)
    named Cap says = absurd (cc)
    named (Defeats d) says =
        let same : d ≡ c = eqb-true d c says in
        ([], with_fewest places row d, ap (λ (k : ℕ). called v (k - 1) ++ with_fewest places row d) same)
    named Tie says = absurd (cc)
    named (Lot d) says =
        let same : d ≡ c = eqb-true d c says in (
          codes "The lots decide: " ∷ [],
          codes " stands first of them in the lots and is defeated." ∷ [],
          ap (λ (k : ℕ). codes "The lots decide: "
              ∷ (called v (k - 1) ++ codes " stands first of them in the lots and is defeated." ∷ [])) same,
        )
