-- Ballot files and lots that are accepted are not refused.
use Rattle.std.proofs.Common.{◌≡◌, ℕ, ◌-◌, ◌<◌, List, ◌∷◌, [], length, take, slice_index, refl, sym, ◌∙◌}
use Rattle.std.proofs.Common.{ap, subst, arith, inl, inr, false, length-take}
use Rattle.std.specs.Prelude.{codes, Ok, Err}
use Rattle.std.proofs.lemmas.List.{get_or-take, get_or_default}
use Rattle.lot_order.specs.Lots.{IsOrder, IsLotsStop}
use Rattle.lot_order.specs.Laws.{HasOneRefusal}
use Rattle.lot_order.specs.declared.lots_stop.LotsStop.{LotsStop}
use Rattle.lot_order.specs.declared.lots_stop.LotsStop.TheVariants.{NotAll, Twice, OutOfRange}
use Rattle.input_text.specs.declared.fault_kind.FaultKind.TheVariants.{BadLots}
use Rattle.input_text.specs.declared.input_fault.InputFault.{InputFault}
use Rattle.input_text.specs.declared.input_stop.InputStop.{InputStop}
use Rattle.input_text.specs.declared.input_stop.InputStop.TheVariants.{Fault, NoMemory as NoInput}
use Rattle.input_text.specs.Scan.{scan}
use Rattle.blt_reader.specs.Poll.{Poll}
use Rattle.blt_reader.specs.Said.{of_a_file, said_by, AcceptsFiles, RefusesByTheRule}
use Rattle.meek_words.specs.Numerals.{Word, IsLotList, HaveOneLotList}
use Rattle.tool_edge.specs.Contest.{SaysPoll, IsBadPlace, HasBadLots, lots_stop}
use Rattle.tool_edge.specs.Tools.{HaveOneOrder, FilesAreNotRefused, FilesAreRefusedOnce}
use Rattle.tool_edge.specs.Tools.{ContestsAreNotRefused, ContestsAreRefusedOnce}

-- an order of all candidates has no place at fault
no_bad_place : (lots : List ℕ) (place : ℕ) → IsOrder lots → IsBadPlace (length lots) lots place → ⊥
no_bad_place lots place order (inl twice) =
    let k = twice.stood_before.0 in
    let earlier : k < place - 1 = omega (arith, twice.stood_before.1, length-take (place - 1) lots) in
    let same : slice_index lots k ≡ slice_index lots (place - 1) =
    sym (get_or-take (place - 1) lots k 0 earlier)
    ∙ (get_or_default (take (place - 1) lots) k 0 (slice_index lots (place - 1)) twice.stood_before.1
    ∙ twice.stood_before.2) in
    let one : k ≡ place - 1 =
    order.different k (place - 1) (omega (arith, twice.inside, twice.from_one))
    (omega (arith, twice.inside, twice.from_one)) same in
    omega arith
no_bad_place lots place order (inr (inl outside)) =
    outside.no_candidate (order.candidates (place - 1) (omega (arith, outside.inside, outside.from_one)))
no_bad_place lots place order (inr (inr (c, first, is))) =
    first.missing (order.whole c first.candidate.0 first.candidate.1)

pub files_are_not_refused : AcceptsFiles → RefusesByTheRule → FilesAreNotRefused
files_are_not_refused accepts refuses input fault (poll, file) refused =
    let read : said_by of_a_file (scan input false) ≡ Ok poll = (accepts of_a_file (scan input false) poll).1 file in
    let stopped : said_by of_a_file (scan input false) ≡ Err fault =
    (refuses of_a_file (scan input false) fault).1 refused in
    cc

-- an input is the file of one poll
one_poll : AcceptsFiles → (input : List ℕ) (poll other : Poll) → SaysPoll input poll → SaysPoll input other → other ≡ poll
one_poll accepts input poll other file again =
    let read : said_by of_a_file (scan input false) ≡ Ok poll = (accepts of_a_file (scan input false) poll).1 file in
    let reread : said_by of_a_file (scan input false) ≡ Ok other = (accepts of_a_file (scan input false) other).1 again in
    cc

pub contests_are_not_refused : AcceptsFiles → RefusesByTheRule → ContestsAreNotRefused
contests_are_not_refused accepts refuses lots input fault (poll, says) (inl refused) =
    files_are_not_refused accepts refuses input fault (poll, says.file) refused
contests_are_not_refused accepts refuses lots input fault (poll, says) (inr bad) =
    let same : bad.poll ≡ poll = one_poll accepts input poll bad.poll says.file bad.file in
    let n : length bad.poll.roll.names ≡ length lots = ap (λ (p : Poll). length p.roll.names) same ∙ sym says.lots_of_all in
    no_bad_place lots bad.place says.order (subst (λ (k : ℕ). IsBadPlace k lots bad.place) n bad.lots_at)

-- ---- one fault at most

pub files_are_refused_once : RefusesByTheRule → FilesAreRefusedOnce
files_are_refused_once refuses input fault other refused again =
    let stopped : said_by of_a_file (scan input false) ≡ Err fault =
    (refuses of_a_file (scan input false) fault).1 refused in
    let restopped : said_by of_a_file (scan input false) ≡ Err other =
    (refuses of_a_file (scan input false) other).1 again in
    cc

-- lots with a place at fault are stopped there
stop_at :
    (n : ℕ) (lots : List ℕ) (place : ℕ) → IsBadPlace n lots place
    → (stop : LotsStop) × IsLotsStop n lots stop
    × (lots_stop (length lots) stop ≡ Fault (record { kind = BadLots; at = place }))
stop_at n lots place (inl twice) = (Twice place, twice, refl)
stop_at n lots place (inr (inl outside)) = (OutOfRange place, outside, refl)
stop_at n lots place (inr (inr (c, first, is))) =
    (NotAll c, first, ap (λ (at : ℕ). Fault (record { kind = BadLots; at = at })) (sym is))

-- the place of a fault
abbrev place_of : InputStop → ℕ
place_of (Fault fault) = fault.at
place_of NoInput = 0

one_bad_place :
    HasOneRefusal → (n : ℕ) (lots : List ℕ) (place other : ℕ) → IsBadPlace n lots place
    → IsBadPlace n lots other → place ≡ other
one_bad_place one n lots place other bad again =
    let stop = stop_at n lots place bad in
    let stop_again = stop_at n lots other again in
    let same : stop.0 ≡ stop_again.0 = one n lots stop.0 stop_again.0 stop.1 stop_again.1 in
    ap place_of (sym stop.2 ∙ (ap (lots_stop (length lots)) same ∙ stop_again.2))

bad_lots_once :
    AcceptsFiles → HasOneRefusal → (lots input : List ℕ) (fault other : InputFault) → HasBadLots lots input fault
    → HasBadLots lots input other → fault ≡ other
bad_lots_once accepts one lots input fault other bad again =
    let same : again.poll ≡ bad.poll = one_poll accepts input bad.poll again.poll bad.file again.file in
    let there : IsBadPlace (length bad.poll.roll.names) lots again.place =
    subst (λ (p : Poll). IsBadPlace (length p.roll.names) lots again.place) same again.lots_at in
    let place = one_bad_place one (length bad.poll.roll.names) lots bad.place again.place bad.lots_at there in
    bad.fault_is ∙ (ap (λ (at : ℕ). let f : InputFault = record { kind = BadLots; at = at } in f) place ∙ sym again.fault_is)

pub contests_are_refused_once : AcceptsFiles → RefusesByTheRule → HasOneRefusal → ContestsAreRefusedOnce
contests_are_refused_once accepts refuses one lots input fault other (inl refused) (inl again) =
    files_are_refused_once refuses input fault other refused again
contests_are_refused_once accepts refuses one lots input fault other (inl refused) (inr bad) =
    absurd (files_are_not_refused accepts refuses input fault (bad.poll, bad.file) refused)
contests_are_refused_once accepts refuses one lots input fault other (inr bad) (inl again) =
    absurd (files_are_not_refused accepts refuses input other (bad.poll, bad.file) again)
contests_are_refused_once accepts refuses one lots input fault other (inr bad) (inr again) =
    bad_lots_once accepts one lots input fault other bad again

pub have_one_order : HaveOneLotList → HaveOneOrder
have_one_order one words lots others (word, is, list) (again, is_again, list_again) =
    let same : codes "--lots" ∷ again ∷ [] ≡ codes "--lots" ∷ word ∷ [] = sym is_again ∙ is in
    let w : again ≡ word = cc in
    one word lots others list (subst (λ (v : Word). IsLotList v others) w list_again)
