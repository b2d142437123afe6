-- The head of a table.
use Rattle.std.proofs.Common.{◌≡◌, ◌≢◌, ◌⊎◌, inl, inr, subst, set, eqb, leb, replicate, ℕ, ◌+◌}
use Rattle.std.proofs.Common.{◌-◌, ◌<◌, ◌≤◌, Bool, true, false, cond, not, ◌&&◌, ◌||◌, List, [], ◌∷◌}
use Rattle.std.proofs.Common.{◌++◌, map, take, drop, length}
use Rattle.std.proofs.Common.{Option, Some, None, Result, Ok, Err, get_or, refl, ap, sym, ◌∙◌, arith}
use Rattle.std.proofs.Common.{sum_by, add-one, append_assoc}
use Rattle.std.specs.Option.{is_some}
use Rattle.std.specs.List.{list_all, list_any, enumerate_from, filter_map, slice_get}
use Rattle.std.proofs.Math.Seq.{drop-cons}
use Rattle.std.proofs.Math.Bool.{or-true, or-false}
use Rattle.std.proofs.lemmas.Bool.{eqb-false}
use Rattle.std.proofs.lemmas.Bool.Decides.{eqb_tells, leb_tells}
use Rattle.std.proofs.lemmas.List.Folds.{list_any-append}
use Rattle.std.proofs.lemmas.List.{get_or-replicate, get_or-set_other, get_or-set_same, length-replicate, length-set}
use Rattle.std.proofs.lemmas.List.{take_more, take_all, drop_all, append-nil, map-append, length-append, length-map}
use Rattle.std.proofs.lemmas.List.Elements.{filter-append}
use Rattle.std.proofs.lemmas.List.Sums.{sum_by_push}
use Rattle.plain_ballots.specs.declared.limits.TheConstants.{MOST_CANDIDATES}
use Rattle.ballot_table.specs.declared.column.Column.{Column}
use Rattle.ballot_table.specs.declared.column.Column.TheVariants as column
use Rattle.ballot_table.specs.declared.fault.Fault.{Fault}
use Rattle.ballot_table.specs.declared.table_kind.TableKind.{TableKind}
use Rattle.ballot_table.specs.declared.table_kind.TableKind.TheVariants.{BadColumns, HeadExpected, RepeatedColumn}
use Rattle.ballot_table.specs.Faults.{fault_of, first_fault, sound}
use Rattle.std.specs.Str.{bytes_eq}
use Rattle.ballot_table.specs.declared.table_asked.TableAsked.{TableAsked}
use Rattle.ballot_table.specs.declared.layout.Layout.{Layout}
use Rattle.ballot_table.specs.declared.layout.Layout.TheVariants as layout
use Rattle.ballot_table.specs.Head.{name_of, names_in, names_of, unlabelled, column_of, columns_of, columns}
use Rattle.ballot_table.specs.Head.{are_chosen, chosen_column, heads_say_ranks, is_cell, labelled, next_column, rank_among, rank_said}
use Rattle.ballot_table.specs.Head.{said_column}
use Rattle.ballot_table.specs.Asked.{asked_of}
use Rattle.ballot_table.specs.Finding.{candidates_at, candidates_in, other_at, named_by, among, with_seen, IsNext, IsSeen}
use Rattle.ballot_table.specs.Texts.{is_in, number_in, said_number}

-- some kept text has this name
named_if : (b : Bool) (f : List ℕ → List ℕ) (x : List ℕ) (kept : List (List ℕ)) (any : Bool) (name : List ℕ)
    → is_in (map f kept) name ≡ any
    → is_in (map f (cond b (x ∷ kept) kept)) name ≡ ((b && bytes_eq (f x) name) || any)
named_if true f x kept any name is = ap (λ (r : Bool). bytes_eq (f x) name || r) is
named_if false f x kept any name is = is

pub named_is : (a : TableAsked) (before : List (List ℕ)) (name : List ℕ)
    → is_in (map (name_of (asked_of a)) (unlabelled (asked_of a) before)) name
    ≡ list_any (λ other. not (is_in a.labels other) && bytes_eq (name_of (asked_of a) other) name) before
named_is a [] name = refl
named_is a (x ∷ xs) name =
    named_if (not (is_in a.labels x)) (name_of (asked_of a)) x (unlabelled (asked_of a) xs) _ name
    (named_is a xs name)

-- the unlabelled among texts, with one more
pub unlabelled_more : (a : TableAsked) (texts : List (List ℕ)) (at : ℕ) (text : List ℕ) → at < length texts
    → text ≡ get_or texts at text
    → unlabelled (asked_of a) (take (at + 1) texts)
    ≡ unlabelled (asked_of a) (take at texts) ++ cond (not (is_in a.labels text)) (text ∷ []) []
unlabelled_more a texts at text inside is =
    ap (unlabelled (asked_of a)) (take_more texts at text inside)
    ∙ ap (λ (t : List ℕ). unlabelled (asked_of a) (take at texts ++ t ∷ [])) (sym is)
    ∙ filter-append (λ (t : List ℕ). not (is_in a.labels t)) (take at texts) (text ∷ [])

-- names so far, with one more
pub names_label : (a : TableAsked) (texts : List (List ℕ)) (at : ℕ) (text : List ℕ) (names : List (List ℕ))
    → at < length texts → text ≡ get_or texts at text → is_in a.labels text ≡ true
    → names ≡ map (name_of (asked_of a)) (unlabelled (asked_of a) (take at texts))
    → names ≡ map (name_of (asked_of a)) (unlabelled (asked_of a) (take (at + 1) texts))
names_label a texts at text names inside is label so_far =
    so_far
    ∙ sym (ap (map (name_of (asked_of a))) (unlabelled_more a texts at text inside is
    ∙ ap (λ b. unlabelled (asked_of a) (take at texts) ++ cond (not b) (text ∷ []) []) label
    ∙ append-nil (unlabelled (asked_of a) (take at texts))))

pub names_more : (a : TableAsked) (texts : List (List ℕ)) (at : ℕ) (text : List ℕ) (names : List (List ℕ))
    → at < length texts → text ≡ get_or texts at text → is_in a.labels text ≡ false
    → names ≡ map (name_of (asked_of a)) (unlabelled (asked_of a) (take at texts))
    → names ++ name_of (asked_of a) text ∷ []
    ≡ map (name_of (asked_of a)) (unlabelled (asked_of a) (take (at + 1) texts))
names_more a texts at text names inside is other so_far =
    ap (λ (l : List (List ℕ)). l ++ name_of (asked_of a) text ∷ []) so_far
    ∙ sym (map-append (name_of (asked_of a)) (unlabelled (asked_of a) (take at texts)) (text ∷ []))
    ∙ sym (ap (map (name_of (asked_of a))) (unlabelled_more a texts at text inside is
    ∙ ap (λ b. unlabelled (asked_of a) (take at texts) ++ cond (not b) (text ∷ []) []) other))

-- the columns of texts from a place on
abbrev pub columns_from : TableAsked → List (List ℕ) → ℕ → List (List ℕ) → List (Result Column TableKind)
columns_from a texts at left =
    map (λ (p : ℕ × List ℕ). column_of (asked_of a) texts (take p.0 texts) p.1) (enumerate_from at left)

abbrev pub first_from : ℕ → List (Result Column TableKind) → Option Fault
first_from place fields = slice_get (filter_map fault_of (enumerate_from place fields)) 0

-- one more head that is no label
named_more : (l : Layout) (m n : ℕ) → named_by l m + named_by l n ≡ named_by l (m + n)
named_more layout.Ranks m n = refl
named_more layout.Choices m n = refl
named_more layout.List m n = refl

none_named : (l : Layout) → named_by l 0 ≡ 0
none_named layout.Ranks = refl
none_named layout.Choices = refl
none_named layout.List = refl

-- The columns of texts up to a place are these, so many of which have no labels.
pub record AreColumns (a : TableAsked) (texts : List (List ℕ)) (at : ℕ) (found : List Column) (others : ℕ) : Type 0 where
  pub fault : first_fault (columns_of (asked_of a) texts) ≡ first_from (at + 1) (columns_from a texts at (drop at texts))
  pub all : columns (asked_of a) texts ≡ found ++ sound (columns_from a texts at (drop at texts))
  pub counted : others ≡ length (unlabelled (asked_of a) (take at texts))
  pub sum : sum_by candidates_at found ≡ named_by a.layout others
  pub few : named_by a.layout others ≤ MOST_CANDIDATES
  pub inside : others ≤ at

pub columns_begun : (a : TableAsked) (texts : List (List ℕ)) → AreColumns a texts 0 [] 0
columns_begun a texts = record {
  fault = refl;
  all = refl;
  counted = refl;
  sum = sym (none_named a.layout);
  few = let none = none_named a.layout in omega (arith, none);
  inside = omega arith;
}

module _ (a : TableAsked) (texts : List (List ℕ)) (at : ℕ) (text : List ℕ) (inside : at < length texts)
    (is : text ≡ get_or texts at text) (found : List Column) (others : ℕ)
    (so_far : AreColumns a texts at found others)
  where
    next_left : drop at texts ≡ text ∷ drop (at + 1) texts
    next_left =
        drop-cons texts at text inside
        ∙ ap (λ (n : ℕ). get_or texts at text ∷ drop n texts) (sym (add-one at))
        ∙ ap (λ (t : List ℕ). t ∷ drop (at + 1) texts) (sym is)

    with_next : columns_from a texts at (drop at texts)
        ≡ column_of (asked_of a) texts (take at texts) text ∷ columns_from a texts (at + 1) (drop (at + 1) texts)
    with_next = ap (columns_from a texts at) next_left

    pub column_fault : (kind : TableKind) → column_of (asked_of a) texts (take at texts) text ≡ Err kind
        → first_fault (columns_of (asked_of a) texts) ≡ Some (record { kind = kind; place = at + 1 })
    column_fault kind faulty =
        so_far.fault ∙ ap (first_from (at + 1)) with_next
        ∙ ap (λ r. first_from (at + 1) (r ∷ columns_from a texts (at + 1) (drop (at + 1) texts))) faulty

    pub column_more : (column : Column) → column_of (asked_of a) texts (take at texts) text ≡ Ok column
        → IsNext (asked_of a) others text column
        → AreColumns a texts (at + 1) (found ++ column ∷ []) (others + other_at (asked_of a) text)
    column_more column sound_is next = record {
      fault =
          so_far.fault ∙ ap (first_from (at + 1)) with_next
          ∙ ap (λ r. first_from (at + 1) (r ∷ columns_from a texts (at + 1) (drop (at + 1) texts))) sound_is;
      all =
          so_far.all ∙ ap (λ l. found ++ sound l) with_next
          ∙ ap (λ r. found ++ sound (r ∷ columns_from a texts (at + 1) (drop (at + 1) texts))) sound_is
          ∙ sym (append_assoc found (column ∷ []) (sound (columns_from a texts (at + 1) (drop (at + 1) texts))));
      counted =
          ap (λ (n : ℕ). n + cond (is_in a.labels text) 0 1) so_far.counted
          ∙ ap (λ (n : ℕ). length (unlabelled (asked_of a) (take at texts)) + n) (one (is_in a.labels text))
          ∙ sym (length-append (unlabelled (asked_of a) (take at texts))
          (cond (not (is_in a.labels text)) (text ∷ []) []))
          ∙ sym (ap (λ (l : List (List ℕ)). length l) (unlabelled_more a texts at text inside is));
      sum =
          sum_by_push candidates_at found column ∙ ap (λ (n : ℕ). n + candidates_at column) so_far.sum
          ∙ ap (λ (n : ℕ). named_by a.layout others + n) next.named
          ∙ named_more a.layout others (other_at (asked_of a) text);
      few = next.few;
      inside =
          let before = so_far.inside in
          let here : other_at (asked_of a) text ≤ 1 = at_most (is_in a.labels text) in
          omega (arith, before, here);
    }
      where
        one : (b : Bool) → cond b 0 1 ≡ length (cond (not b) (text ∷ []) [])
        one true = refl
        one false = refl

        at_most : (b : Bool) → cond b 0 1 ≤ 1
        at_most true = omega arith
        at_most false = omega arith

-- after the last text
module _ (a : TableAsked) (texts : List (List ℕ)) (at : ℕ) (end : length texts ≤ at) (found : List Column) (others : ℕ)
    (so_far : AreColumns a texts at found others)
  where
    pub no_column_fault : first_fault (columns_of (asked_of a) texts) ≡ None
    no_column_fault =
        so_far.fault ∙ ap (λ (l : List (List ℕ)). first_from (at + 1) (columns_from a texts at l)) (drop_all at texts end)

    pub all_columns : found ≡ columns (asked_of a) texts
    all_columns =
        sym (so_far.all
        ∙ ap (λ (l : List (List ℕ)). found ++ sound (columns_from a texts at l)) (drop_all at texts end)
        ∙ append-nil found)

    pub all_counted : others ≡ length (unlabelled (asked_of a) texts)
    all_counted =
        so_far.counted ∙ ap (λ (l : List (List ℕ)). length (unlabelled (asked_of a) l)) (take_all at texts end)

-- how many candidates there are
pub as_many_names : (a : TableAsked) (texts : List (List ℕ)) (others : ℕ)
    → others ≡ length (unlabelled (asked_of a) texts)
    → among a.layout (length a.candidates) others ≡ length (names_of (asked_of a) texts)
as_many_names a texts others is = by_layout a.layout
  where
    by_layout : (l : Layout) → among l (length a.candidates) others ≡ length (names_in l (asked_of a) texts)
    by_layout layout.Ranks = is ∙ sym (length-map (unlabelled (asked_of a) texts) (name_of (asked_of a)))
    by_layout layout.Choices = refl
    by_layout layout.List = refl

pub as_many_columns : (a : TableAsked) (found : List Column) (others : ℕ)
    → sum_by candidates_at found ≡ named_by a.layout others
    → candidates_in (asked_of a) found ≡ among a.layout (length a.candidates) others
as_many_columns a found others is = by_layout a.layout is
  where
    by_layout : (l : Layout) → sum_by candidates_at found ≡ named_by l others
        → among l (length a.candidates) (sum_by candidates_at found) ≡ among l (length a.candidates) others
    by_layout layout.Ranks same = same
    by_layout layout.Choices same = refl
    by_layout layout.List same = refl

-- ---- ranks that heads say

module _ (n : ℕ) where
  abbrev pub says_rank : ℕ → List ℕ → Bool
  says_rank rank text = eqb (rank_said n text) rank

  pub none_seen : IsSeen n [] (replicate n false)
  none_seen = record {
    size = length-replicate n false;
    each = λ k inside. get_or-replicate n k false false inside;
  }

  -- one more head says its rank
  pub seen_more : (before : List (List ℕ)) (seen : List Bool) (text : List ℕ) (rank : ℕ) → rank ≡ rank_said n text
      → 1 ≤ rank → rank ≤ n → IsSeen n before seen → IsSeen n (before ++ text ∷ []) (set seen (rank - 1) true)
  seen_more before seen text rank is least most so_far = record {
    size = length-set seen (rank - 1) true ∙ so_far.size;
    each = λ k inside. by_place k inside (eqb_tells rank (k + 1));
  }
    where
      more : (k : ℕ) → list_any (says_rank (k + 1)) (before ++ text ∷ [])
          ≡ (list_any (says_rank (k + 1)) before || (eqb rank (k + 1) || false))
      more k =
          list_any-append (says_rank (k + 1)) before (text ∷ [])
          ∙ ap (λ (r : ℕ). list_any (says_rank (k + 1)) before || (eqb r (k + 1) || false)) (sym is)

      by_place :
          (k : ℕ) → k < n
          → ((eqb rank (k + 1) ≡ true) × (rank ≡ k + 1)) ⊎ ((eqb rank (k + 1) ≡ false) × (rank ≢ k + 1))
          → get_or (set seen (rank - 1) true) k false ≡ list_any (says_rank (k + 1)) (before ++ text ∷ [])
      by_place k inside (inl here) =
          let same : rank - 1 ≡ k = let e = here.1 in omega (arith, e) in
          let within : k < length seen = let size = so_far.size in omega (arith, inside, size) in
          ap (λ (i : ℕ). get_or (set seen i true) k false) same ∙ get_or-set_same seen k true false within
          ∙ sym (more k ∙ ap (λ (b : Bool). list_any (says_rank (k + 1)) before || (b || false)) here.0
          ∙ or-true (list_any (says_rank (k + 1)) before))
      by_place k inside (inr other) =
          let differ : k ≢ rank - 1 = λ e. other.1 (omega (arith, e, least)) in
          get_or-set_other seen (rank - 1) k true false differ ∙ so_far.each k inside
          ∙ sym (more k ∙ ap (λ (b : Bool). list_any (says_rank (k + 1)) before || (b || false)) other.0
          ∙ or-false (list_any (says_rank (k + 1)) before))

-- a rank that a head says among n is one of them
pub rank_within : (n : ℕ) (o : Option ℕ) → rank_among n o ≤ n
rank_within n None = omega arith
rank_within n (Some rank) = by_test (leb_tells rank n)
  where
    by_test : ((leb rank n ≡ true) × (rank ≤ n)) ⊎ ((leb rank n ≡ false) × (n < rank)) → cond (leb rank n) rank 0 ≤ n
    by_test (inl is) = subst (λ (b : Bool). cond b rank 0 ≤ n) (sym is.0) is.1
    by_test (inr is) = subst (λ (b : Bool). cond b rank 0 ≤ n) (sym is.0) (omega arith)

-- a label leaves what is seen, where no columns are named that are read
label_seen : (b : Bool) (chosen : List (List ℕ)) (text : List ℕ) (seen : List Bool)
    → are_chosen layout.Choices chosen ≡ false
    → with_seen (cond b column.Weight (chosen_column (number_in chosen text))) seen ≡ seen
label_seen true chosen text seen none = refl
label_seen false [] text seen none = refl
label_seen false (head ∷ heads) text seen none = absurd (cc none)

-- where heads say ranks, the words don't name columns
none_chosen : (nought : Bool) (chosen all : Bool) → (not nought && not chosen && all) ≡ true → chosen ≡ false
none_chosen true chosen all say = absurd (cc say)
none_chosen false true all say = absurd (cc say)
none_chosen false false all say = refl

module _ (a : TableAsked) (all front : List (List ℕ)) (text : List ℕ) (column_is : Column) (seen : List Bool) where
  abbrev n : ℕ
  n = length (unlabelled (asked_of a) all)

  abbrev before : List (List ℕ)
  before = unlabelled (asked_of a) front

  abbrev more : Bool → List (List ℕ)
  more label = before ++ cond (not label) (text ∷ []) []

  by_rank : (nought some : Bool) → eqb (rank_said n text) 0 ≡ nought
      → cond (nought || some) (Err BadColumns) (Ok (column.Rank (rank_said n text))) ≡ Ok column_is → IsSeen n before seen
      → IsSeen n (before ++ text ∷ []) (with_seen column_is seen)
  by_rank true some is_nought is so_far = absurd (cc is)
  by_rank false true is_nought is so_far = absurd (cc is)
  by_rank false false is_nought is so_far =
      let same : column.Rank (rank_said n text) ≡ column_is = cc is in
      let some : (rank_said n text ≡ 0 → ⊥) = eqb-false (rank_said n text) 0 is_nought in
      let least : 1 ≤ rank_said n text = positive (rank_said n text) some in
      subst (λ (c : Column). IsSeen n (before ++ text ∷ []) (with_seen c seen)) same
      (seen_more n before seen text (rank_said n text) refl least (rank_within n (said_number text)) so_far)
    where
      positive : (rank : ℕ) → (rank ≡ 0 → ⊥) → 1 ≤ rank
      positive rank some = omega (arith, some)

  by_label : (label again cell : Bool) (labelled_is : Column) (next : Result Column TableKind)
      → with_seen labelled_is seen ≡ seen → next ≡ said_column n before text
      → cond label (cond again (Err RepeatedColumn) (Ok labelled_is)) (cond cell (Err HeadExpected) next) ≡ Ok column_is
      → IsSeen n before seen → IsSeen n (more label) (with_seen column_is seen)
  by_label true true cell labelled_is next none next_is is so_far = absurd (cc is)
  by_label true false cell labelled_is next none next_is is so_far =
      let same : labelled_is ≡ column_is = cc is in
      subst (λ (c : Column). IsSeen n (before ++ []) (with_seen c seen)) same
      (subst (IsSeen n (before ++ [])) (sym none)
      (subst (λ (l : List (List ℕ)). IsSeen n l seen) (sym (append-nil before)) so_far))
  by_label false again true labelled_is next none next_is is so_far = absurd (cc is)
  by_label false again false labelled_is next none next_is is so_far =
      by_rank (eqb (rank_said n text) 0) (list_any (λ other. eqb (rank_said n other) (rank_said n text)) before) refl
      (sym next_is ∙ is) so_far

  -- with one more text
  pub seen_column : a.layout ≡ layout.Choices → heads_say_ranks (asked_of a) all ≡ true
      → column_of (asked_of a) all front text ≡ Ok column_is → IsSeen n before seen
      → IsSeen n (more (is_in a.labels text)) (with_seen column_is seen)
  seen_column choices say is so_far =
      let none : are_chosen layout.Choices a.chosen ≡ false =
      ap (λ (l : Layout). are_chosen l a.chosen) (sym choices)
      ∙ none_chosen (eqb a.heads 0) (are_chosen a.layout a.chosen)
      (list_all (λ text. is_some (said_number text)) (unlabelled (asked_of a) all)) say in
      by_label (is_in a.labels text) (is_in front text) (not a.head_is_said && is_cell a.layout (asked_of a) all text)
      (labelled (asked_of a) text) (next_column a.layout (asked_of a) all before text)
      (label_seen _ a.chosen text seen none)
      (ap (λ (l : Layout). next_column l (asked_of a) all before text) choices
      ∙ ap (λ (b : Bool). cond b (Ok column.PassedOver)
      (cond (heads_say_ranks (asked_of a) all) (said_column n before text) (Ok (column.Rank (length before + 1))))) none
      ∙ ap (λ (b : Bool). cond b (said_column n before text) (Ok (column.Rank (length before + 1)))) say)
      is so_far
