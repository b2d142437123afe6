-- The JSON of a day as a text of what it says. 93 is the bracket after a list, and 125 the brace after the whole.
use Rattle.std.proofs.Common.{◌≡◌, ◌∙◌, refl, sym, ap, subst, ℕ, ◌+◌, ◌<◌, ◌≤◌, ◌^◌, List, [], ◌∷◌, ◌++◌, arith}
use Rattle.std.proofs.Common.{Bool, true, false, append_assoc, drop, get_or, inl, inr, length, length-append, map}
use Rattle.std.specs.Prelude.{All, codes, decimal, nat_eq}
use Rattle.std.specs.List.{enumerate_from, flat_map}
use Rattle.std.proofs.lemmas.Bool.{ne_eqb}
use Rattle.std.proofs.lemmas.Bool.Decides.{eqb_tells}
use Rattle.std.proofs.lemmas.List.Elements.{All-head, All-tail}
use Rattle.batch_core.specs.declared.entry.Entry.{Entry}
use Rattle.batch_core.specs.Laws.{EveryBatchIsNumbered}
use Rattle.day_lines.specs.EntryText.{call_text, numbered, reply_text}
use Rattle.day_text.specs.declared.batch_end.BatchEnd.{BatchEnd}
use Rattle.day_text.specs.End.{day_end}
use Rattle.day_text.specs.Form.{HasDayForm, IsPrintableSheet, sheet_places}
use Rattle.day_text.specs.Said.{IsSaidEntry}
use Rattle.day_text.specs.Values.{DayTextList, FrozenSheet}
use Rattle.sheet_page.specs.Json.{sheet_json, truth}
use Rattle.sheet_page.specs.JsonGrammar.{AreItems, IsTextOf, Truth, Whole, closed, others_closed}
use Rattle.sheet_page.specs.JsonText.{string_text}
use Rattle.sheet_page.specs.JsonValues.{items_of}
use Rattle.sheet_page.proofs.CandidateJson.{member, members, truth-text}
use Rattle.sheet_page.proofs.JsonParts.{joined-onto, onto, said-text}
use Rattle.sheet_page.proofs.SheetJson.{sheet-is, sheet-written, sheet_text}
use Rattle.day_page.specs.DayJson.{freeze_json, json_with, listed}
use Rattle.day_page.specs.DayValues.{batch_value, call_value, day_value, freeze_value, freeze_values}
use Rattle.day_page.proofs.DayNumbers.{AreSmall, IsSmall, few_calls, last_is_own, small_batches}
use Rattle.day_page.proofs.DayNumbers.{small_freezes, small_struck}

-- ---- lists

others_written :
    (pieces : List (List ℕ)) (rest : List ℕ)
    → flat_map (λ other. 44 ∷ other) pieces ++ 93 ∷ rest ≡ others_closed pieces 93 ++ rest
others_written [] rest = refl
others_written (piece ∷ pieces) rest =
    ap (λ (l : List ℕ). 44 ∷ l) (append_assoc piece (flat_map (λ (other : List ℕ). 44 ∷ other) pieces) (93 ∷ rest)
    ∙ ap (λ (l : List ℕ). piece ++ l) (others_written pieces rest)
    ∙ sym (append_assoc piece (others_closed pieces 93) rest))

-- pieces with a comma between two, and the bracket after them
list_written : (pieces : List (List ℕ)) (rest : List ℕ) → listed pieces ++ 93 ∷ rest ≡ closed pieces 93 ++ rest
list_written [] rest = refl
list_written (piece ∷ pieces) rest =
    append_assoc piece (flat_map (λ (other : List ℕ). 44 ∷ other) pieces) (93 ∷ rest)
    ∙ ap (λ (l : List ℕ). piece ++ l) (others_written pieces rest)
    ∙ sym (append_assoc piece (others_closed pieces 93) rest)

abbrev list_text : List (List ℕ) → List ℕ
list_text pieces = 91 ∷ closed pieces 93

-- ---- a call

abbrev call_pieces : (n : ℕ) → Entry → List (List ℕ)
call_pieces n e =
    member (codes "\"number\"") (decimal n) ∷ member (codes "\"caller\"") (decimal e.caller)
    ∷ member (codes "\"call\"") (string_text (call_text e.call))
    ∷ member (codes "\"answer\"") (string_text (reply_text e.reply)) ∷ []

abbrev call_members : ℕ × Entry → List ℕ
call_members e = members (call_pieces e.0 e.1)

call_is : (n : ℕ) (e : Entry) → IsSmall n → IsSmall e.caller → IsTextOf (call_value n e) (members (call_pieces n e))
call_is n e few low = (
  call_pieces n e,
  refl,
  (
    (codes "\"number\"", decimal n, refl, refl, (few, refl)),
    (
      (codes "\"caller\"", decimal e.caller, refl, refl, (low, refl)),
      (
        (codes "\"call\"", string_text (call_text e.call), refl, refl, said-text (call_text e.call)),
        (
          (codes "\"answer\"", string_text (reply_text e.reply), refl, refl, said-text (reply_text e.reply)),
          refl,
        ),
      ),
    ),
  ),
)

calls_are :
    (n : ℕ) (history : List Entry) → n + length history ≤ 2 ^ 64 → All IsSaidEntry history
    → AreItems (items_of (map (λ e. call_value e.0 e.1) (enumerate_from n history)))
    (map call_members (enumerate_from n history))
calls_are n [] few said = refl
calls_are n (e ∷ history) few said = (
  call_is n e (omega (arith, few)) (omega (arith, (All-head IsSaidEntry e history said).caller)),
  calls_are (n + 1) history (omega (arith, few)) (All-tail IsSaidEntry e history said),
)

-- ---- a batch

abbrev batch_pieces : BatchEnd → List (List ℕ)
batch_pieces b =
    member (codes "\"number\"") (decimal b.number) ∷ member (codes "\"revision\"") (decimal b.revision)
    ∷ member (codes "\"stands\"") (truth b.stands) ∷ []

abbrev batch_members : BatchEnd → List ℕ
batch_members b = members (batch_pieces b)

batch_is : (b : BatchEnd) → AreSmall b → IsTextOf (batch_value b) (batch_members b)
batch_is b are = (
  batch_pieces b,
  refl,
  (
    (codes "\"number\"", decimal b.number, refl, refl, (are.0, refl)),
    (
      (codes "\"revision\"", decimal b.revision, refl, refl, (are.1, refl)),
      ((codes "\"stands\"", truth b.stands, refl, refl, truth-text b.stands), refl),
    ),
  ),
)

batches_are :
    (batches : List BatchEnd) → All AreSmall batches
    → AreItems (items_of (map batch_value batches)) (map batch_members batches)
batches_are [] are = refl
batches_are (b ∷ batches) are =
    (batch_is b (All-head AreSmall b batches are), batches_are batches (All-tail AreSmall b batches are))

-- ---- a struck candidate

struck_are : (struck : List ℕ) → All IsSmall struck → AreItems (items_of (map Whole struck)) (map decimal struck)
struck_are [] are = refl
struck_are (c ∷ struck) are =
    ((All-head IsSmall c struck are, refl), struck_are struck (All-tail IsSmall c struck are))

-- ---- a freeze

abbrev freeze_pieces : (places calls : ℕ) → FrozenSheet → List (List ℕ)
freeze_pieces places calls s =
    member (codes "\"at\"") (decimal s.freeze) ∷ member (codes "\"own\"") (truth (nat_eq s.freeze calls))
    ∷ member (codes "\"sheet\"") (sheet_text places s.values) ∷ []

abbrev freeze_members : (places calls : ℕ) → FrozenSheet → List ℕ
freeze_members places calls s = members (freeze_pieces places calls s)

abbrev freeze_parts : (calls : ℕ) → FrozenSheet → List (List ℕ)
freeze_parts calls s =
    codes "{\"at\":" ∷ decimal s.freeze ∷ codes ",\"own\":" ∷ truth (nat_eq s.freeze calls) ∷ codes ",\"sheet\":" ∷ []

freeze_written : (places calls : ℕ) (s : FrozenSheet) → freeze_json places calls s ≡ freeze_members places calls s
freeze_written places calls s =
    joined-onto (freeze_parts calls s) (sheet_json places s.values ++ 125 ∷ [])
    ∙ ap (λ (l : List ℕ). onto (freeze_parts calls s) (l ++ 125 ∷ [])) (sheet-written places s.values)

freezes_written :
    (places calls : ℕ) (sheets : List FrozenSheet)
    → map (freeze_json places calls) sheets ≡ map (freeze_members places calls) sheets
freezes_written places calls sheets = λ j. map (λ s. freeze_written places calls s j) sheets

freeze_is :
    (places calls : ℕ) (own : Bool) (s : FrozenSheet) → nat_eq s.freeze calls ≡ own → IsSmall s.freeze
    → IsPrintableSheet places s → IsTextOf (freeze_value places own s) (freeze_members places calls s)
freeze_is places calls own s same few is = (
  freeze_pieces places calls s,
  refl,
  (
    (codes "\"at\"", decimal s.freeze, refl, refl, (few, refl)),
    (
      (
        codes "\"own\"",
        truth (nat_eq s.freeze calls),
        refl,
        refl,
        subst (λ (b : Bool). IsTextOf (Truth b) (truth (nat_eq s.freeze calls))) same
            (truth-text (nat_eq s.freeze calls)),
      ),
      ((codes "\"sheet\"", sheet_text places s.values, refl, refl, sheet-is places s.values is), refl),
    ),
  ),
)

own_is : (freeze calls : ℕ) → freeze ≡ calls → nat_eq freeze calls ≡ true
own_is freeze calls same =
    elim (eqb_tells freeze calls) [
      | inl is ↦ is.0
      | inr other ↦ absurd (other.1 same)
    ]

other_is : (freeze calls : ℕ) → freeze < calls → nat_eq freeze calls ≡ false
other_is freeze calls below = ne_eqb freeze calls (λ same. omega (arith, below, same))

heads : (x y : ℕ) (xs ys : List ℕ) → x ∷ xs ≡ y ∷ ys → (x ≡ y) × (xs ≡ ys)
heads x y xs ys e = (ap (λ (l : List ℕ). get_or l 0 0) e, ap (λ (l : List ℕ). drop 1 l) e)

freezes_are :
    (places calls : ℕ) (sheets : List FrozenSheet) (others : List ℕ) → sheet_places sheets ≡ others ++ calls ∷ []
    → All (λ k. k < calls) others → All IsSmall (sheet_places sheets) → All (IsPrintableSheet places) sheets
    → AreItems (items_of (freeze_values places sheets)) (map (freeze_members places calls) sheets)
freezes_are places calls [] others last before few are =
    absurd (omega (arith, ap length last, length-append others (calls ∷ [])))
freezes_are places calls (s ∷ []) [] last before few are = (
  freeze_is places calls true s (own_is s.freeze calls (heads s.freeze calls [] [] last).0)
      (All-head IsSmall s.freeze [] few) (All-head (IsPrintableSheet places) s [] are),
  refl,
)
freezes_are places calls (s ∷ []) (other ∷ others) last before few are =
    absurd (omega (arith, ap length last, length-append others (calls ∷ [])))
freezes_are places calls (s ∷ next ∷ sheets) [] last before few are = absurd (omega (arith, ap length last))
freezes_are places calls (s ∷ next ∷ sheets) (other ∷ others) last before few are =
    let both = heads s.freeze other (sheet_places (next ∷ sheets)) (others ++ calls ∷ []) last in
    let below = All-head (λ (k : ℕ). k < calls) other others before in (
      freeze_is places calls false s (other_is s.freeze calls (omega (arith, below, both.0)))
          (All-head IsSmall s.freeze (sheet_places (next ∷ sheets)) few)
          (All-head (IsPrintableSheet places) s (next ∷ sheets) are),
      freezes_are places calls (next ∷ sheets) others both.1 (All-tail (λ (k : ℕ). k < calls) other others before)
          (All-tail IsSmall s.freeze (sheet_places (next ∷ sheets)) few)
          (All-tail (IsPrintableSheet places) s (next ∷ sheets) are),
    )

-- ---- the whole day

abbrev calls_text : DayTextList → List ℕ
calls_text v = list_text (map call_members (numbered v.history))

abbrev batches_text : DayTextList → List ℕ
batches_text v = list_text (map batch_members (day_end v.history).batches)

abbrev struck_text : DayTextList → List ℕ
struck_text v = list_text (map decimal (day_end v.history).struck)

abbrev freezes_text : (places : ℕ) → DayTextList → List ℕ
freezes_text places v = list_text (map (freeze_members places (length v.history)) v.sheets)

abbrev day_pieces : (places : ℕ) → DayTextList → List (List ℕ)
day_pieces places v =
    member (codes "\"calls\"") (calls_text v) ∷ member (codes "\"batches\"") (batches_text v)
    ∷ member (codes "\"struck\"") (struck_text v) ∷ member (codes "\"freezes\"") (freezes_text places v) ∷ []

abbrev pub day_members : (places : ℕ) → DayTextList → List ℕ
day_members places v = members (day_pieces places v)

pub day_written : (places : ℕ) (v : DayTextList)
    → json_with places v.history v.sheets (day_end v.history) ≡ day_members places v
day_written places v =
    let n = length v.history in
    let calls = map call_members (numbered v.history) in
    let batches = map batch_members (day_end v.history).batches in
    let struck = map decimal (day_end v.history).struck in
    let frozen = map (freeze_json places n) v.sheets in
    let freezes = map (freeze_members places n) v.sheets in
    let last = codes "],\"freezes\":[" ++ (listed frozen ++ codes "]}") in
    let third = codes "],\"struck\":[" ++ listed struck in
    let second = codes "],\"batches\":[" ++ (listed batches ++ third) in
    let ends : listed frozen ++ codes "]}" ≡ closed freezes 93 ++ 125 ∷ [] =
    ap (λ (l : List (List ℕ)). listed l ++ codes "]}") (freezes_written places n v.sheets)
    ∙ list_written freezes (125 ∷ []) in
    let strikes : listed struck ++ last ≡ closed struck 93 ++ (codes ",\"freezes\":[" ++ (closed freezes 93 ++ 125 ∷ [])) =
    list_written struck (codes ",\"freezes\":[" ++ (listed frozen ++ codes "]}"))
    ∙ ap (λ (l : List ℕ). closed struck 93 ++ (codes ",\"freezes\":[" ++ l)) ends in
    let stands : (listed batches ++ third) ++ last
    ≡ closed batches 93 ++ (codes ",\"struck\":[" ++ (closed struck 93 ++ (codes ",\"freezes\":[" ++ (closed freezes 93
    ++ 125 ∷ [])))) =
    append_assoc (listed batches) third last
    ∙ list_written batches (codes ",\"struck\":[" ++ (listed struck ++ last))
    ∙ ap (λ (l : List ℕ). closed batches 93 ++ (codes ",\"struck\":[" ++ l)) strikes in
    ap (λ (l : List ℕ). codes "{\"calls\":[" ++ l)
    (list_written calls (codes ",\"batches\":[" ++ ((listed batches ++ third) ++ last))
    ∙ ap (λ (l : List ℕ). closed calls 93 ++ (codes ",\"batches\":[" ++ l)) stands)

pub day_is :
    EveryBatchIsNumbered → (places : ℕ) (input : List ℕ) (v : DayTextList) → length input < 2 ^ 64
    → HasDayForm places input v → IsTextOf (day_value places v) (day_members places v)
day_is are_numbered places input v short form =
    let few = few_calls places input v short form in
    let n = length v.history in
    let own = last_is_own v.history form.ends in
    let places_few = subst (All IsSmall) (sym form.freezes) (small_freezes v.history few) in
    let batches = batches_are (day_end v.history).batches (small_batches are_numbered v.history form.calls) in
    let struck = struck_are (day_end v.history).struck (small_struck v.history form.calls) in (
      day_pieces places v,
      refl,
      (
        (
          codes "\"calls\"",
          calls_text v,
          refl,
          refl,
          (
            map call_members (numbered v.history),
            refl,
            calls_are 1 v.history (omega (arith, few)) form.calls,
          ),
        ),
        (
          (
            codes "\"batches\"",
            batches_text v,
            refl,
            refl,
            (map batch_members (day_end v.history).batches, refl, batches),
          ),
          (
            (codes "\"struck\"", struck_text v, refl, refl, (map decimal (day_end v.history).struck, refl, struck)),
            (
              (
                codes "\"freezes\"",
                freezes_text places v,
                refl,
                refl,
                (
                  map (freeze_members places n) v.sheets,
                  refl,
                  freezes_are places n v.sheets own.others (form.freezes ∙ own.last) own.before places_few
                      form.sheets,
                ),
              ),
              refl,
            ),
          ),
        ),
      ),
    )
