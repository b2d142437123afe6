-- The line of an answered call names its caller.
use Rattle.std.proofs.Common.{◌≡◌, ℕ, zero, suc, ◌^◌, ◌<◌, ◌≤◌, Bool, cond, List, [], ◌∷◌, ◌++◌}
use Rattle.std.proofs.Common.{refl, sym, ap, ◌∙◌, arith, drop, get_or}
use Rattle.std.specs.Prelude.{decimal, codes}
use Rattle.std.proofs.lemmas.List.{append_assoc, append_cancel_left}
use Rattle.std.proofs.lemmas.Bool.{ne_eqb}
use Rattle.std.proofs.lemmas.Str.Parse.{digit_from_value}
use Rattle.std.proofs.lemmas.Fmt.{decimal_is_IsNumeral}
use Rattle.std.specs.Str.Parse.{AllDigits, digits_value}
use Rattle.day_lines.specs.EntryText.{caller_text}
use Rattle.day_replay.specs.Saying.{call_front, BeginsWith, Says}

front_is :
    (n caller : ℕ) (rest : List ℕ)
    → call_front n caller ++ rest ≡ decimal n ++ 32 ∷ (caller_text caller ++ 32 ∷ rest)
front_is n caller rest =
    append_assoc (decimal n) (32 ∷ (caller_text caller ++ 32 ∷ [])) rest
    ∙ ap (λ (l : List ℕ). decimal n ++ 32 ∷ l) (append_assoc (caller_text caller) (32 ∷ []) rest)

-- two callers of one line have the same text after the number
both :
    (n one other : ℕ) (line : List ℕ) → (a : Says n one line) → (b : Says n other line)
    → caller_text one ++ 32 ∷ a.0 ≡ caller_text other ++ 32 ∷ b.0
both n one other line a b =
    ap (drop 1)
    (append_cancel_left (decimal n) (32 ∷ (caller_text one ++ 32 ∷ a.0)) (32 ∷ (caller_text other ++ 32 ∷ b.0))
    (sym (front_is n one a.0) ∙ (sym a.1 ∙ (b.1 ∙ front_is n other b.0))))

-- a team's text
team_text : (team : ℕ) → caller_text (suc team) ≡ codes "team " ++ decimal (suc team)
team_text team =
    ap (λ (b : Bool). cond b (codes "clerk") (codes "team " ++ decimal (suc team)))
    (ne_eqb (suc team) 0 (λ is. absurd (omega (arith, is))))

-- no line is both a team's and the clerk's
pub not_the_clerk : (n team : ℕ) (line : List ℕ) → Says n (suc team) line → Says n 0 line → ⊥
not_the_clerk n team line a b =
    let same = ap (λ (l : List ℕ). l ++ 32 ∷ a.0) (sym (team_text team)) ∙ both n (suc team) 0 line a b in
    let wrong : 116 ≡ 99 = ap (λ (l : List ℕ). get_or l 0 0) same in
    omega (arith, wrong)

digit : (c : ℕ) (cs : List ℕ) → AllDigits 10 (c ∷ cs) → 48 ≤ c
digit c cs all = omega (arith, digit_from_value c all.0)

-- digits before a space
same_digits :
    (xs ys : List ℕ) (a b : List ℕ) → AllDigits 10 xs → AllDigits 10 ys → xs ++ 32 ∷ a ≡ ys ++ 32 ∷ b → xs ≡ ys
same_digits [] [] a b all others same = refl
same_digits [] (y ∷ ys) a b all others same =
    let head : 32 ≡ y = ap (λ (l : List ℕ). get_or l 0 0) same in
    absurd (omega (arith, head, digit y ys others))
same_digits (x ∷ xs) [] a b all others same =
    let head : x ≡ 32 = ap (λ (l : List ℕ). get_or l 0 0) same in
    absurd (omega (arith, head, digit x xs all))
same_digits (x ∷ xs) (y ∷ ys) a b all others same =
    let head : x ≡ y = ap (λ (l : List ℕ). get_or l 0 0) same in
    let tail = same_digits xs ys a b all.1 others.1 (ap (drop 1) same) in
    λ i. head i ∷ tail i

-- a line is of one team
pub one_team :
    (n one other : ℕ) (line : List ℕ) → suc one < 2 ^ 64 → suc other < 2 ^ 64 → Says n (suc one) line → Says n (suc other) line
    → suc one ≡ suc other
one_team n one other line small few a b =
    let same =
    ap (λ (l : List ℕ). l ++ 32 ∷ a.0) (sym (team_text one))
    ∙ (both n (suc one) (suc other) line a b ∙ ap (λ (l : List ℕ). l ++ 32 ∷ b.0) (team_text other)) in
    let behind : decimal (suc one) ++ 32 ∷ a.0 ≡ decimal (suc other) ++ 32 ∷ b.0 = ap (drop 5) same in
    let p = decimal_is_IsNumeral (suc one) small in
    let q = decimal_is_IsNumeral (suc other) few in
    let digits = same_digits (decimal (suc one)) (decimal (suc other)) a.0 b.0 p.0.1 q.0.1 behind in
    sym p.1 ∙ (ap (digits_value 10) digits ∙ q.1)

-- who made the call of a line is one, where teams have numbers up to 16
pub same_caller :
    (n one other : ℕ) (line : List ℕ) → 1 ≤ one → one ≤ 16 → (1 ≤ other → other ≤ 16) → Says n one line → Says n other line
    → one ≡ other
same_caller n zero other line some few fewer a b = absurd (omega (arith, some))
same_caller n (suc one) zero line some few fewer a b = absurd (not_the_clerk n one line a b)
same_caller n (suc one) (suc other) line some few fewer a b =
    let small = fewer (omega arith) in
    one_team n one other line (omega (arith, few)) (omega (arith, small)) a b

-- how a team's line goes on after its number
team_front :
    (n team : ℕ) (rest : List ℕ)
    → call_front n (suc team) ++ rest ≡ (decimal n ++ codes " team ") ++ ((decimal (suc team) ++ 32 ∷ []) ++ rest)
team_front n team rest =
    front_is n (suc team) rest
    ∙ (ap (λ (l : List ℕ). decimal n ++ 32 ∷ (l ++ 32 ∷ rest)) (team_text team)
    ∙ (ap (λ (l : List ℕ). decimal n ++ 32 ∷ (codes "team " ++ l)) (sym (append_assoc (decimal (suc team)) (32 ∷ []) rest))
    ∙ sym (append_assoc (decimal n) (codes " team ") ((decimal (suc team) ++ 32 ∷ []) ++ rest))))

pub team_line :
    (n team : ℕ) (line front : List ℕ) → (says : Says n (suc team) line) → front ≡ decimal n ++ codes " team "
    → line ≡ front ++ ((decimal (suc team) ++ 32 ∷ []) ++ says.0)
team_line n team line front says is =
    says.1 ∙ (team_front n team says.0 ∙ ap (λ (l : List ℕ). l ++ ((decimal (suc team) ++ 32 ∷ []) ++ says.0)) (sym is))

module _ (n team : ℕ) (line front rest : List ℕ) (front_is : front ≡ decimal n ++ codes " team ") (parts : line ≡ front ++ rest) where
  pub says_begins : Says n (suc team) line → BeginsWith (suc team) rest
  says_begins says = (
    says.0,
    append_cancel_left front rest ((decimal (suc team) ++ 32 ∷ []) ++ says.0)
        (sym parts ∙ team_line n team line front says front_is),
  )

  pub begins_says : BeginsWith (suc team) rest → Says n (suc team) line
  begins_says begins = (
    begins.0,
    parts ∙ ((λ i. front_is i ++ begins.1 i) ∙ sym (team_front n team begins.0)),
  )
