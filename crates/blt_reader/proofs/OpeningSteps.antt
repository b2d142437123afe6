-- The numbers of candidates and seats, and one withdrawn candidate more.
use Rattle.std.proofs.Common.{◌≡◌, ℕ, ◌+◌, List, [], ◌∷◌, ◌++◌, map, Bool, true, false, ◌==◌, ◌||◌, refl, sym}
use Rattle.std.proofs.Common.{◌∙◌, ap, subst, inl, inr, Ok, Err}
use Rattle.std.specs.Prelude.{All}
use Rattle.std.specs.List.{range_with_len}
use Rattle.std.proofs.lemmas.Bool.{eqb-true}
use Rattle.std.proofs.lemmas.List.Elements.{All-push}
use Rattle.std.proofs.lemmas.List.Folds.{list_any-append}
use Rattle.candidate_roll.specs.Roll.{is_listed, withdrawn_marks}
use Rattle.input_text.specs.declared.fault_kind.FaultKind.{FaultKind}
use Rattle.input_text.specs.declared.fault_kind.FaultKind.TheVariants.{BadNumber, BadWithdrawn}
use Rattle.input_text.specs.declared.input_fault.InputFault.{InputFault}
use Rattle.input_text.specs.declared.input_stop.InputStop.{InputStop}
use Rattle.input_text.specs.declared.input_stop.InputStop.TheVariants as stop
use Rattle.blt_reader.specs.declared.opening.Opening.{Opening}
use Rattle.input_text.specs.declared.what.What.{What}
use Rattle.input_text.specs.declared.what.What.TheVariants as code
use Rattle.input_text.specs.Token.{Item, Number, Minus, Text, Word, Placed, Scan, with_front}
use Rattle.input_text.specs.Range.{IsIn, is_in}
use Rattle.input_text.specs.Reader.{said}
use Rattle.input_text.specs.Judged.{GoesOn, front_of, reads}
use Rattle.blt_reader.specs.BallotTable.{Limit, Between}
use Rattle.blt_reader.specs.BltTable.{Heading, Expected, Candidates, Seats, Withdrawn, Ballots, at_token}
use Rattle.input_text.specs.Reads.{IsEnded, Stops, Accepts}
use Rattle.blt_reader.specs.Reads.{as_size}
use Rattle.blt_reader.specs.Opening.{IsListedMore, IsWithdrawn, ReadsWithdrawn, IsOpened, ReadsOpening}
use Rattle.input_text.proofs.Judgements.{refused, same_kind, passed, failed, in_range, to_range}
use Rattle.input_text.proofs.Reading.{goes_on, refused_at, ended_so, stops}

-- ---- sizes

module _ (limit : Limit) (old new : Scan) where
  no_candidates : (item : Item) (kind : FaultKind) → as_size item ≡ Err kind → at_token limit Candidates item ≡ Err kind
  unfolding at_token
  no_candidates (Number n) kind e = failed (is_in 250 n) n _ _ kind e
  no_candidates (Minus n) kind e = ap Err (same_kind e)
  no_candidates (Text bytes) kind e = ap Err (same_kind e)
  no_candidates (Word letters) kind e = ap Err (same_kind e)

  pub candidates_stop :
      (fault : InputFault) → Stops as_size old fault new
      → reads (at_token limit) Candidates old ≡ Err (record { fault = fault; rest = new })
  candidates_stop fault is = stops (at_token limit) Candidates old new as_size fault no_candidates is

  some_candidates : (item : Item) (n : ℕ) → as_size item ≡ Ok n → at_token limit Candidates item ≡ Ok (GoesOn (Seats n))
  unfolding at_token
  some_candidates (Number k) n e =
      let ok = passed (is_in 250 k) k n _ e in rw ok.0 (ap (λ (c : ℕ). Ok (GoesOn (Seats c))) ok.1)
  some_candidates (Minus k) n e = absurd (refused e)
  some_candidates (Text bytes) n e = absurd (refused e)
  some_candidates (Word letters) n e = absurd (refused e)

  pub candidates_read :
      (n : ℕ) → Accepts as_size old n new → reads (at_token limit) Candidates old ≡ reads (at_token limit) (Seats n) new
  candidates_read n is =
      goes_on (at_token limit) Candidates old new is.token (Seats n) is.given
      (some_candidates is.token.item n is.accepted)

  module _ (candidates : ℕ) where
    no_seats : (item : Item) (kind : FaultKind) → as_size item ≡ Err kind → at_token limit (Seats candidates) item ≡ Err kind
    unfolding at_token
    no_seats (Number n) kind e = failed (is_in 250 n) n _ _ kind e
    no_seats (Minus n) kind e = ap Err (same_kind e)
    no_seats (Text bytes) kind e = ap Err (same_kind e)
    no_seats (Word letters) kind e = ap Err (same_kind e)

    pub seats_stop :
        (fault : InputFault) → Stops as_size old fault new
        → reads (at_token limit) (Seats candidates) old ≡ Err (record { fault = fault; rest = new })
    seats_stop fault is = stops (at_token limit) (Seats candidates) old new as_size fault no_seats is

    abbrev Start : ℕ → Expected
    Start seats = Withdrawn (record { candidates = candidates; seats = seats; withdrawn = [] })

    some_seats : (item : Item) (n : ℕ) → as_size item ≡ Ok n → at_token limit (Seats candidates) item ≡ Ok (GoesOn (Start n))
    unfolding at_token
    some_seats (Number k) n e = let ok = passed (is_in 250 k) k n _ e in rw ok.0 (ap (λ (c : ℕ). Ok (GoesOn (Start c))) ok.1)
    some_seats (Minus k) n e = absurd (refused e)
    some_seats (Text bytes) n e = absurd (refused e)
    some_seats (Word letters) n e = absurd (refused e)

    pub seats_read :
        (n : ℕ) → Accepts as_size old n new
        → reads (at_token limit) (Seats candidates) old ≡ reads (at_token limit) (Start n) new
    seats_read n is =
        goes_on (at_token limit) (Seats candidates) old new is.token (Start n) is.given
        (some_seats is.token.item n is.accepted)

-- ---- withdrawn candidates

or_nothing : (b : Bool) → (b || (false || false)) ≡ b
or_nothing true = refl
or_nothing false = refl

or_listed :
    (ws : List ℕ) (n m : ℕ) (same : Bool) → (n == m) ≡ same → is_listed ws n ≡ true
    → (is_listed ws m || (same || false)) ≡ is_listed ws m
or_listed ws n m true is listed = let found = ap (is_listed ws) (sym (eqb-true n m is)) ∙ listed in rw found refl
or_listed ws n m false is listed = or_nothing (is_listed ws m)

-- a number that is there already changes nothing
listed_alike :
    (ws new : List ℕ) (n m : ℕ) → IsListedMore ws n new → (is_listed ws m || ((n == m) || false)) ≡ is_listed new m
listed_alike ws new n m (inl is) = or_listed ws n m (n == m) refl is.1 ∙ ap (λ (l : List ℕ). is_listed l m) (sym is.0)
listed_alike ws new n m (inr is) =
    sym (list_any-append (λ d. d == m) ws (n ∷ [])) ∙ ap (λ (l : List ℕ). is_listed l m) (sym is)

pub one_withdrawn :
    (candidates : ℕ) (start old new : Scan) (ws more : List ℕ) (n at : ℕ) → IsWithdrawn candidates start ws old
    → old ≡ with_front (record { at = at; item = Minus n }) new → IsIn candidates n → IsListedMore ws n more
    → IsWithdrawn candidates start more new
unfolding at_token
one_withdrawn candidates start old new ws more n at before given is listed = record {
  listed = before.listed ++ n ∷ [];
  alike =
      λ m. list_any-append (λ d. d == m) before.listed (n ∷ [])
      ∙ ap (λ (b : Bool). b || ((n == m) || false)) (before.alike m)
      ∙ listed_alike ws more n m listed;
  same =
      λ limit seats. before.same limit seats ∙ goes_on (at_token limit)
      (Withdrawn (record { candidates = candidates; seats = seats; withdrawn = before.listed })) old new
      (record { at = at; item = Minus n })
      (Withdrawn (record { candidates = candidates; seats = seats; withdrawn = before.listed ++ n ∷ [] }))
      given (rw (to_range candidates n is) refl);
}

map_alike : (f g : ℕ → Bool) (xs : List ℕ) → ((x : ℕ) → f x ≡ g x) → map f xs ≡ map g xs
map_alike f g [] alike = refl
map_alike f g (x ∷ xs) alike =
    ap (λ (b : Bool). b ∷ map f xs) (alike x) ∙ ap (λ (l : List Bool). g x ∷ l) (map_alike f g xs alike)

pub marks_alike :
    (candidates : ℕ) (listed ws : List ℕ) → ((n : ℕ) → is_listed listed n ≡ is_listed ws n)
    → withdrawn_marks candidates listed ≡ withdrawn_marks candidates ws
marks_alike candidates listed ws alike =
    map_alike (λ p. is_listed listed (p + 1)) (λ p. is_listed ws (p + 1)) (range_with_len 0 candidates) (λ p. alike (p + 1))

-- a number that is put on the list is one of its numbers
pub listed_each : (P : ℕ → Type 0) (ws more : List ℕ) (n : ℕ) → All P ws → P n → IsListedMore ws n more → All P more
listed_each P ws more n each is (inl same) = subst (All P) (sym same.0) each
listed_each P ws more n each is (inr pushed) = subst (All P) (sym pushed) (All-push P ws n each is)

-- ---- what else is where a withdrawn candidate or a count is expected

abbrev pub NotWithdrawn : ℕ → Item → FaultKind → Type 0
NotWithdrawn candidates item kind =
    (limit : Limit) (h : Heading) → h.candidates ≡ candidates → at_token limit (Withdrawn h) item ≡ Err kind

pub withdrawn_refused :
    (candidates : ℕ) (start old new : Scan) (ws : List ℕ) (token : Placed) (kind : FaultKind)
    → IsWithdrawn candidates start ws old → old ≡ with_front token new → NotWithdrawn candidates token.item kind
    → ReadsWithdrawn candidates start ws (Err (stop.Fault (record { kind = kind; at = token.at }))) new
withdrawn_refused candidates start old new ws token kind before given not = λ limit seats. before.same limit seats
    ∙ refused_at (at_token limit)
    (Withdrawn (record { candidates = candidates; seats = seats; withdrawn = before.listed })) old
    new token kind given (not limit _ refl)

pub withdrawn_ended :
    (candidates : ℕ) (start old new : Scan) (ws : List ℕ) (fault : InputFault) → IsWithdrawn candidates start ws old
    → IsEnded old fault new → ReadsWithdrawn candidates start ws (Err (stop.Fault fault)) new
withdrawn_ended candidates start old new ws fault before is = λ limit seats. before.same limit seats
    ∙ ended_so (at_token limit)
    (Withdrawn (record { candidates = candidates; seats = seats; withdrawn = before.listed })) old new fault
    is

out_of_range :
    (candidates n : ℕ) (is : Bool) → is_in candidates n ≡ is → (IsIn candidates n → ⊥) → is_in candidates n ≡ false
out_of_range candidates n true is not = absurd (not (in_range candidates n is))
out_of_range candidates n false is not = is

pub bad_withdrawn : (candidates n : ℕ) → (IsIn candidates n → ⊥) → NotWithdrawn candidates (Minus n) BadWithdrawn
unfolding at_token
bad_withdrawn candidates n not =
    λ limit h same. let no : is_in h.candidates n ≡ false = ap (λ (c : ℕ). is_in c n) same
    ∙ out_of_range candidates n (is_in candidates n) refl not in rw no refl

pub no_count :
    (candidates : ℕ) (bytes : List ℕ) (at stop : ℕ) (what : What) → ((n : ℕ) → what ≡ code.Number n → ⊥)
    → ((n : ℕ) → what ≡ code.Minus n → ⊥) → NotWithdrawn candidates (said bytes at stop what) BadNumber
unfolding at_token
no_count candidates bytes at stop (code.Number n) number minus = absurd (number n refl)
no_count candidates bytes at stop (code.Minus n) number minus = absurd (minus n refl)
no_count candidates bytes at stop code.Text number minus = λ limit h same. refl
no_count candidates bytes at stop code.Word number minus = λ limit h same. refl

-- ---- the whole opening

-- the first count is judged as every count is
first_number :
    (limit : Limit) (h : Heading) (n at : ℕ) (rest : Scan)
    → reads (at_token limit) (Withdrawn h) (with_front (record { at = at; item = Number n }) rest)
    ≡ reads (at_token limit) (Ballots h (Between [])) (with_front (record { at = at; item = Number n }) rest)
unfolding at_token front_of
first_number limit h n at rest = refl

abbrev pub Opens : ℕ → ℕ → Scan → Scan → Type 0
Opens candidates seats start old =
    (limit : Limit) → reads (at_token limit) Candidates start
    ≡ reads (at_token limit) (Withdrawn (record { candidates = candidates; seats = seats; withdrawn = [] })) old

pub opened : (start old new : Scan) (opening : Opening) → Opens opening.candidates opening.seats start old
    → IsWithdrawn opening.candidates old opening.withdrawn.items
    (with_front (record { at = opening.first.1; item = Number opening.first.0 }) new) → IsOpened start opening new
opened start old new opening opens is = record {
  listed = is.listed;
  marks = marks_alike opening.candidates is.listed opening.withdrawn.items is.alike;
  same = λ limit. opens limit ∙ is.same limit opening.seats
      ∙ first_number limit
      (record { candidates = opening.candidates; seats = opening.seats; withdrawn = is.listed })
      opening.first.0 opening.first.1 new;
}

pub opening_fails :
    (candidates seats : ℕ) (start old new : Scan) (ws : List ℕ) (why : InputStop) → Opens candidates seats start old
    → ReadsWithdrawn candidates old ws (Err why) new → ReadsOpening start (Err why) new
opening_fails candidates seats start old new ws (stop.Fault fault) opens is = λ limit. opens limit ∙ is limit seats
opening_fails candidates seats start old new ws stop.NoMemory opens is = tt
