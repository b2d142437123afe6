-- What the tokens of a ballot file say.
use Rattle.std.proofs.Common.{◌≡◌, ◌∙◌, ℕ, ◌≤◌, false, List, [], ◌∷◌, ◌++◌, length, map, take, drop}
use Rattle.std.proofs.Common.{ap, append_assoc, append-nil, sym}
use Rattle.std.specs.List.{AllByRecursion, filter, flat_map}
use Rattle.std.proofs.lemmas.List.{map-append}
use Rattle.std.proofs.lemmas.List.Elements.{recursion_from_All}
use Rattle.plain_ballots.specs.declared.ballot_line.BallotLine.{BallotLine}
use Rattle.candidate_roll.specs.Roll.{is_withdrawn}
use Rattle.input_text.specs.Token.{Item, Number, Minus, Text, Placed}
use Rattle.input_text.specs.Refusal.{items_of}
use Rattle.blt_reader.specs.Blt.{ballot}
use Rattle.blt_reader.specs.Poll.{Poll}
use Rattle.tool_edge.specs.Contest.{SaysPoll}
use Rattle.ballot_findings.specs.Laws.{NamesAreFirstStrings, RanksAreOfLines, SeatsAreSecond}
use Rattle.ballot_findings.specs.Sites.{is_string, tokens_of}
use Rattle.ballot_findings.proofs.Spelled.{IsLine, all_strings, minus_none, no_lines, no_minus, of_lines, rank_items}
use Rattle.ballot_findings.proofs.Spelled.{ranks_among, string_items, texts_none}

-- ---- a file from its front on

-- after its first two numbers: the withdrawn candidates, the ballots, and all strings
abbrev behind_front : (listed : List ℕ) → List BallotLine → (texts : List (List ℕ)) → List Item
behind_front listed lines texts = map Minus listed ++ (flat_map ballot lines ++ (Number 0 ∷ map Text texts))

texts_joined :
    (names : List (List ℕ)) (title : List ℕ) (further : List (List ℕ))
    → (map Text names ++ Text title ∷ []) ++ map Text further ≡ map Text (names ++ (title ∷ further))
texts_joined names title further =
    append_assoc (map Text names) (Text title ∷ []) (map Text further) ∙ sym (map-append Text names (title ∷ further))

joined :
    (listed : List ℕ) (lines : List BallotLine) (names : List (List ℕ)) (title : List ℕ) (further : List (List ℕ))
    → (map Minus listed ++ ((flat_map ballot lines ++ Number 0 ∷ []) ++ (map Text names ++ Text title ∷ [])))
    ++ map Text further
    ≡ behind_front listed lines (names ++ (title ∷ further))
joined listed lines names title further =
    let strings = map Text names ++ Text title ∷ [] in
    let more = map Text further in
    let ballots = flat_map ballot lines in
    append_assoc (map Minus listed) ((ballots ++ Number 0 ∷ []) ++ strings) more
    ∙ ap (λ (l : List Item). map Minus listed ++ l)
    (append_assoc (ballots ++ Number 0 ∷ []) strings more
    ∙ (append_assoc ballots (Number 0 ∷ []) (strings ++ more)
    ∙ ap (λ (l : List Item). ballots ++ (Number 0 ∷ l)) (texts_joined names title further)))

record Spells (input : List ℕ) (poll : Poll) : Type 0 where
  listed : List ℕ
  further : List (List ℕ)
  all : items_of (tokens_of input)
      ≡ Number (length poll.roll.names) ∷ (Number poll.roll.seats
      ∷ behind_front listed poll.lines (poll.roll.names ++ (poll.roll.title ∷ further)))
  lines : AllByRecursion IsLine poll.lines

lines_of :
    (n : ℕ) (lines : List BallotLine) → AllByRecursion (λ line. AllByRecursion (λ c. (1 ≤ c) × (c ≤ n)) line.ranking) lines
    → AllByRecursion (λ line. 1 ≤ line.count) lines → AllByRecursion IsLine lines
lines_of n [] ranked counted = tt
lines_of n (line ∷ lines) ranked counted =
    ((counted.0, from_one line.ranking ranked.0), lines_of n lines ranked.1 counted.1)
  where
    from_one : (ranks : List ℕ) → AllByRecursion (λ c. (1 ≤ c) × (c ≤ n)) ranks → AllByRecursion (λ c. 1 ≤ c) ranks
    from_one [] are = tt
    from_one (c ∷ ranks) are = (are.0.0, from_one ranks are.1)

spells : (input : List ℕ) (poll : Poll) → SaysPoll input poll → Spells input poll
spells input poll says =
    let file = says.file in
    let front = file.up_to_title in
    let n = length poll.roll.names in
    record {
      listed = front.withdrawn;
      further = file.further;
      all =
          file.spelled
          ∙ (ap (λ (l : List Item). l ++ map Text file.further) front.spelled
          ∙ ap (λ (l : List Item). Number n ∷ (Number poll.roll.seats ∷ l))
          (joined front.withdrawn poll.lines poll.roll.names poll.roll.title file.further));
      lines =
          lines_of n poll.lines
          (recursion_from_All (λ line. AllByRecursion (λ c. (1 ≤ c) × (c ≤ n)) line.ranking) poll.lines
          (λ k d inside. recursion_from_All (λ c. (1 ≤ c) × (c ≤ n)) _ (front.lines.rankings k d inside).numbers))
          (recursion_from_All (λ line. 1 ≤ line.count) poll.lines front.lines.counted);
    }

-- ---- the first two tokens, and those after them

front_two :
    (tokens : List Placed) (a b : Item) (items : List Item) → items_of tokens ≡ a ∷ (b ∷ items)
    → items_of (take 2 tokens) ≡ a ∷ (b ∷ [])
front_two [] a b items is = absurd (cc)
front_two (token ∷ []) a b items is = absurd (cc)
front_two (token ∷ next ∷ tokens) a b items is =
    let first : token.item ≡ a = cc in
    let second : next.item ≡ b = cc in
    λ i. first i ∷ (second i ∷ [])

behind_two :
    (tokens : List Placed) (a b : Item) (items : List Item) → items_of tokens ≡ a ∷ (b ∷ items)
    → items_of (drop 2 tokens) ≡ items
behind_two [] a b items is = absurd (cc)
behind_two (token ∷ []) a b items is = absurd (cc)
behind_two (token ∷ next ∷ tokens) a b items is = let rest : items_of tokens ≡ items = cc in rest

pub seats : SeatsAreSecond
seats input poll says = front_two (tokens_of input) _ _ _ (spells input poll says).all

pub names : NamesAreFirstStrings
names input poll says =
    let is = spells input poll says in
    let texts = poll.roll.names ++ (poll.roll.title ∷ is.further) in (
      is.further,
      string_items (tokens_of input)
          ∙ (ap (filter is_string) is.all
          ∙ (no_minus is.listed (flat_map ballot poll.lines ++ (Number 0 ∷ map Text texts))
          ∙ (no_lines poll.lines (Number 0 ∷ map Text texts) ∙ all_strings texts))),
    )

pub ranks : RanksAreOfLines
ranks input poll says =
    let is = spells input poll says in
    let marks = poll.roll.withdrawn in
    let texts = poll.roll.names ++ (poll.roll.title ∷ is.further) in
    let behind = Number 0 ∷ map Text texts in
    let said = map Number (flat_map (λ line. filter (is_withdrawn marks) line.ranking) poll.lines) in
    rank_items marks (drop 2 (tokens_of input))
    ∙ (ap (ranks_among marks false) (behind_two (tokens_of input) _ _ _ is.all)
    ∙ (minus_none marks is.listed (flat_map ballot poll.lines ++ behind)
    ∙ (of_lines marks poll.lines behind is.lines
    ∙ (ap (λ (l : List Item). said ++ l) (texts_none marks texts) ∙ append-nil said))))
