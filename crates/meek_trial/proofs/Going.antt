-- A text with one more line, batch or team.
use Rattle.std.proofs.Common.{◌≡◌, ℕ, zero, suc, ◌+◌, ◌-◌, ◌*◌, ◌/◌, ◌%◌, ◌==◌, ◌<◌, ◌≤◌, List, [], ◌∷◌, ◌++◌}
use Rattle.std.proofs.Common.{map, refl, sym, ap, ◌∙◌, append_assoc, append-nil, arith}
use Rattle.std.specs.List.{flat_map, range_with_len}
use Rattle.std.proofs.lemmas.List.Concat.{flat_map-append}
use Rattle.std.proofs.lemmas.List.FromFn.{map-range_with_len_more}
use Rattle.meek_trial.specs.Draws.{Drawing, next, drawn, candidate}
use Rattle.meek_trial.specs.Trial.{number_then, spaced, ballot, ballots, batch, batches, first, one_team, teams}

-- ---- the sequence

pub drawn_first : (number : ℕ) → drawn number 0 ≡ number
unfolding drawn
drawn_first number = refl

pub drawn_more : (number k : ℕ) → drawn number (k + 1) ≡ (drawn number k * 1103515245 + 12345) % 2147483648
unfolding drawn next
drawn_more number k =
    let on : k + 1 ≡ suc k = omega arith in
    ap (drawn number) on

-- ---- parts of a text, one for each number of a range

parts_more :
    (part : ℕ → List ℕ) (a n : ℕ)
    → flat_map part (range_with_len a (suc n)) ≡ flat_map part (range_with_len a n) ++ part (a + n)
parts_more part a zero =
    let same : a ≡ a + 0 = omega arith in
    append-nil (part a) ∙ ap part same
parts_more part a (suc n) =
    let same : a + 1 + n ≡ a + suc n = omega arith in
    let rest = flat_map part (range_with_len (a + 1) n) in
    ap (λ (t : List ℕ). part a ++ t) (parts_more part (a + 1) n)
    ∙ (sym (append_assoc (part a) rest (part (a + 1 + n))) ∙ ap (λ (k : ℕ). (part a ++ rest) ++ part k) same)

go_on :
    (part : ℕ → List ℕ) (front text more : List ℕ) (a n : ℕ)
    → text ≡ front ++ flat_map part (range_with_len a n) → more ≡ text ++ part (a + n)
    → more ≡ front ++ flat_map part (range_with_len a (n + 1))
go_on part front text more a n so_far put =
    let on : suc n ≡ n + 1 = omega arith in
    let parts = flat_map part (range_with_len a n) in
    put
    ∙ (ap (λ (t : List ℕ). t ++ part (a + n)) so_far
    ∙ (append_assoc front parts (part (a + n))
    ∙ (ap (λ (t : List ℕ). front ++ t) (sym (parts_more part a n))
    ∙ ap (λ (k : ℕ). front ++ flat_map part (range_with_len a k)) on)))

-- ---- the parts of a day

abbrev pub drawing : (number taken : ℕ) → Drawing
drawing number taken = record { number = number; taken = taken }

pub ballots_none : (number k : ℕ) → ballots number k 0 ≡ []
unfolding ballots
ballots_none number k = refl

pub ballots_go_on : (front text more : List ℕ) (number k n : ℕ) → text ≡ front ++ ballots number k n
    → more ≡ text ++ ballot n (drawn number (k + n + 1)) → more ≡ front ++ ballots number k (n + 1)
unfolding ballots
ballots_go_on front text more number k n so_far put =
    let same : n ≡ 0 + n = omega arith in
    go_on (λ l. ballot l (drawn number (k + l + 1))) front text more 0 n so_far
    (put ∙ ap (λ (l : ℕ). text ++ ballot l (drawn number (k + l + 1))) same)

pub batches_none : (number team : ℕ) → batches number team 0 ≡ []
unfolding batches
batches_none number team = refl

pub batches_go_on : (front text more : List ℕ) (number team n : ℕ) → text ≡ front ++ batches number team n
    → more ≡ text ++ batch number (first number team + n) → more ≡ front ++ batches number team (n + 1)
unfolding batches
batches_go_on front text more number team n so_far put =
    go_on (batch number) front text more (first number team) n so_far put

pub teams_none : (number : ℕ) → teams number 0 ≡ []
unfolding teams
teams_none number = refl

pub teams_go_on :
    (front text more : List ℕ) (number n : ℕ) → text ≡ front ++ teams number n
    → more ≡ text ++ one_team number (1 + n)
    → more ≡ front ++ teams number (n + 1)
unfolding teams
teams_go_on front text more number n so_far put = go_on (one_team number) front text more 1 n so_far put

pub ranking_goes_on : (front line more : List ℕ) (x j : ℕ) → line ≡ front ++ spaced (map (candidate x) (range_with_len 0 j))
    → more ≡ line ++ spaced (candidate x j ∷ []) → more ≡ front ++ spaced (map (candidate x) (range_with_len 0 (j + 1)))
ranking_goes_on front line more x j so_far put =
    let cs = map (candidate x) (range_with_len 0 j) in
    put
    ∙ (ap (λ (l : List ℕ). l ++ spaced (candidate x j ∷ [])) so_far
    ∙ (append_assoc front (spaced cs) (spaced (candidate x j ∷ []))
    ∙ ap (λ (l : List ℕ). front ++ l)
    (sym (flat_map-append (number_then 32) cs (candidate x j ∷ []))
    ∙ ap spaced (sym (map-range_with_len_more (candidate x) 0 j j (omega arith))))))
