-- Strings and withdrawn candidates among the items of a ballot file.
use Rattle.std.proofs.Common.{◌≡◌, ◌∙◌, ℕ, ◌≤◌, Bool, true, false, List, [], ◌∷◌, ◌++◌, map}
use Rattle.std.proofs.Common.{ap, arith, append_assoc, refl, sym}
use Rattle.std.specs.Prelude.{◌==◌, ◌&&◌, not, if◌then◌else◌}
use Rattle.std.specs.List.{AllByRecursion, filter, flat_map, zip}
use Rattle.std.proofs.lemmas.Bool.{ne_eqb}
use Rattle.std.proofs.lemmas.List.{map-append}
use Rattle.plain_ballots.specs.declared.ballot_line.BallotLine.{BallotLine}
use Rattle.candidate_roll.specs.Roll.{is_withdrawn}
use Rattle.input_text.specs.Token.{Item, Number, Minus, Text, Placed}
use Rattle.input_text.specs.Refusal.{items_of}
use Rattle.blt_reader.specs.Blt.{ballot}
use Rattle.ballot_findings.specs.Sites.{goes_on, is_of_withdrawn, is_string, ranks_one, strings, withdrawn_ranks}

-- ---- strings

one_string :
    (is : Bool) (token : Placed) (tokens : List Placed) (items : List Item) → items_of tokens ≡ items
    → items_of (if is then token ∷ tokens else tokens) ≡ (if is then token.item ∷ items else items)
one_string true token tokens items same = ap (λ (l : List Item). token.item ∷ l) same
one_string false token tokens items same = same

-- the items of the strings are the strings among the items
pub string_items : (tokens : List Placed) → items_of (strings tokens) ≡ filter is_string (items_of tokens)
string_items [] = refl
string_items (token ∷ tokens) =
    one_string (is_string token.item) token (strings tokens) (filter is_string (items_of tokens)) (string_items tokens)

pub no_minus : (listed : List ℕ) (items : List Item) → filter is_string (map Minus listed ++ items) ≡ filter is_string items
no_minus [] items = refl
no_minus (n ∷ listed) items = no_minus listed items

no_ranks : (ranks : List ℕ) (items : List Item) → filter is_string (map Number ranks ++ items) ≡ filter is_string items
no_ranks [] items = refl
no_ranks (n ∷ ranks) items = no_ranks ranks items

-- a ballot line in front of other items
line_front :
    (line : BallotLine) (lines items : List Item)
    → (ballot line ++ lines) ++ items ≡ Number line.count ∷ (map Number line.ranking ++ (Number 0 ∷ (lines ++ items)))
line_front line lines items =
    append_assoc (ballot line) lines items
    ∙ ap (λ (l : List Item). Number line.count ∷ l)
    (append_assoc (map Number line.ranking) (Number 0 ∷ []) (lines ++ items))

pub no_lines :
    (lines : List BallotLine) (items : List Item)
    → filter is_string (flat_map ballot lines ++ items) ≡ filter is_string items
no_lines [] items = refl
no_lines (line ∷ lines) items =
    ap (filter is_string) (line_front line (flat_map ballot lines) items)
    ∙ (no_ranks line.ranking (Number 0 ∷ (flat_map ballot lines ++ items)) ∙ no_lines lines items)

pub all_strings : (texts : List (List ℕ)) → filter is_string (map Text texts) ≡ map Text texts
all_strings [] = refl
all_strings (text ∷ texts) = ap (λ (l : List Item). Text text ∷ l) (all_strings texts)

-- ---- withdrawn candidates

-- a line has a count, and candidates
abbrev pub IsLine : BallotLine → Type 0
IsLine line = (1 ≤ line.count) × AllByRecursion (λ c. 1 ≤ c) line.ranking

module _ (marks : List Bool) where
  -- those among items, where a ballot goes on from the item before them or doesn't
  abbrev pub ranks_among : Bool → List Item → List Item
  ranks_among on [] = []
  ranks_among on (item ∷ items) =
      (if on && is_of_withdrawn marks item then item ∷ [] else []) ++ ranks_among (goes_on item) items

  one_rank :
      (is : Bool) (token next : Placed) (pairs : List (Placed × Placed)) (items : List Item)
      → items_of (map (λ (p : Placed × Placed). p.1) pairs) ≡ items
      → items_of (map (λ (p : Placed × Placed). p.1) (if is then (token, next) ∷ pairs else pairs))
      ≡ (if is then next.item ∷ [] else []) ++ items
  one_rank true token next pairs items same = ap (λ (l : List Item). next.item ∷ l) same
  one_rank false token next pairs items same = same

  behind_one :
      (token : Placed) (tokens : List Placed)
      → items_of (withdrawn_ranks marks (token ∷ tokens)) ≡ ranks_among (goes_on token.item) (items_of tokens)
  behind_one token [] = refl
  behind_one token (next ∷ tokens) =
      one_rank (ranks_one marks (token, next)) token next (filter (ranks_one marks) (zip (next ∷ tokens) tokens))
      (ranks_among (goes_on next.item) (items_of tokens)) (behind_one next tokens)

  pub rank_items : (tokens : List Placed) → items_of (withdrawn_ranks marks tokens) ≡ ranks_among false (items_of tokens)
  rank_items [] = refl
  rank_items (token ∷ tokens) = behind_one token tokens

  pub minus_none :
      (listed : List ℕ) (items : List Item)
      → ranks_among false (map Minus listed ++ items) ≡ ranks_among false items
  minus_none [] items = refl
  minus_none (n ∷ listed) items = minus_none listed items

  pub texts_none : (texts : List (List ℕ)) → ranks_among false (map Text texts) ≡ []
  texts_none [] = refl
  texts_none (text ∷ texts) = texts_none texts

  -- a candidate and what is after it
  candidate :
      (none is : Bool) (c : ℕ) (ranks : List ℕ) (items behind : List Item) → none ≡ false
      → ranks_among true items ≡ map Number ranks ++ behind
      → (if not none && is then Number c ∷ [] else []) ++ ranks_among (not none) items
      ≡ map Number (if is then c ∷ ranks else ranks) ++ behind
  candidate true is c ranks items behind fails same = absurd (cc)
  candidate false true c ranks items behind fails same = ap (λ (l : List Item). Number c ∷ l) same
  candidate false false c ranks items behind fails same = same

  some : (c : ℕ) → 1 ≤ c → (c == 0) ≡ false
  some c from = ne_eqb c 0 (λ none. absurd (omega (arith, from, none)))

  of_ranks :
      (ranks : List ℕ) (items : List Item) → AllByRecursion (λ c. 1 ≤ c) ranks
      → ranks_among true (map Number ranks ++ (Number 0 ∷ items))
      ≡ map Number (filter (is_withdrawn marks) ranks) ++ ranks_among false items
  of_ranks [] items from = refl
  of_ranks (c ∷ ranks) items from =
      candidate (c == 0) (is_withdrawn marks c) c (filter (is_withdrawn marks) ranks)
      (map Number ranks ++ (Number 0 ∷ items)) (ranks_among false items) (some c from.0) (of_ranks ranks items from.1)

  abbrev of_line : BallotLine → List ℕ
  of_line line = filter (is_withdrawn marks) line.ranking

  pub of_lines :
      (lines : List BallotLine) (items : List Item) → AllByRecursion IsLine lines
      → ranks_among false (flat_map ballot lines ++ items)
      ≡ map Number (flat_map of_line lines) ++ ranks_among false items
  of_lines [] items are = refl
  of_lines (line ∷ lines) items are =
      let rest = flat_map ballot lines ++ items in
      let ranks = map Number line.ranking ++ (Number 0 ∷ rest) in
      ap (ranks_among false) (line_front line (flat_map ballot lines) items)
      ∙ (ap (λ (none : Bool). ranks_among (not none) ranks) (some line.count are.0.0)
      ∙ (of_ranks line.ranking rest are.0.1
      ∙ (ap (λ (l : List Item). map Number (of_line line) ++ l) (of_lines lines items are.1)
      ∙ (sym (append_assoc (map Number (of_line line)) (map Number (flat_map of_line lines)) (ranks_among false items))
      ∙ ap (λ (l : List Item). l ++ ranks_among false items)
      (sym (map-append Number (of_line line) (flat_map of_line lines)))))))
