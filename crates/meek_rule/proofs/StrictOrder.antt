-- Places in an order: who comes last, and those before whom few come.
use Rattle.std.proofs.Common.{◌≡◌, ℕ, ◌+◌, ◌<◌, ◌≤◌, Bool, true, false, ◌&&◌, arith, ap, sym, ◌∙◌, inl, inr}
use Rattle.std.proofs.Common.{zero, suc, ◌⊎◌, ◌≢◌, not, nat_lt}
use Rattle.std.proofs.lemmas.Bool.{cases_Bool, cases_eq, cases_lt, and_parts, and_from, and_right, lt-ltb}
use borrow.Author.Tests.{ltb-true}
use Rattle.meek_rule.proofs.Counting.{count, count-le, count-lt, count-le_but_one, count_none}

-- of different places one comes first, and what comes before comes before what that comes before
pub record IsStrictOrder (n : ℕ) (before : ℕ → ℕ → Bool) : Type 0 where
  pub one_way : (a b : ℕ) → before a b ≡ true → before b a ≡ true → ⊥
  pub through : (a b c : ℕ) → before a b ≡ true → before b c ≡ true → before a c ≡ true
  pub total : (a b : ℕ) → a < n → b < n → a ≢ b → (before a b ≡ true) ⊎ (before b a ≡ true)

-- of those that pass one comes last
pub find_last :
    (n top : ℕ) (p : ℕ → Bool) (before : ℕ → ℕ → Bool) → IsStrictOrder top before → n ≤ top
    → ((c : ℕ) → c < n → p c ≡ true → ⊥)
    ⊎ ((m : ℕ) × (m < n) × (p m ≡ true) × ((c : ℕ) → c < n → p c ≡ true → (before c m ≡ true) ⊎ (c ≡ m)))
find_last zero top p before order le = inl (λ c below is. omega arith)
find_last (suc n) top p before order le =
    elim (cases_Bool (p n)) [
      | inr not_so ↦
          elim (find_last n top p before order (omega arith)) [
            | inl none ↦
                inl (λ c below is. elim (cases_eq c n) [
                  | inl same ↦
                      (let off = sym is ∙ (ap p same ∙ not_so) in cc)
                  | inr other ↦
                      none c (omega arith) is
                ])
            | inr found ↦
                inr (
                  found.0,
                  omega (arith, found.1),
                  found.2,
                  λ c below is. elim (cases_eq c n) [
                    | inl same ↦
                        absurd (let off = sym is ∙ (ap p same ∙ not_so) in cc)
                    | inr other ↦
                        found.3 c (omega arith) is
                  ],
                )
          ]
      | inl is_one ↦
          elim (find_last n top p before order (omega arith)) [
            | inl none ↦
                inr (
                  n,
                  omega arith,
                  is_one,
                  λ c below is. elim (cases_eq c n)
                      [ inl same ↦ inr same | inr other ↦ absurd (none c (omega arith) is) ],
                )
            | inr found ↦
                let m_below : found.0 < n = found.1 in
                elim (order.total found.0 n (omega arith) (omega arith) (omega arith)) [
                  | inl earlier ↦
                      inr (
                        n,
                        omega arith,
                        is_one,
                        λ c below is. elim (cases_eq c n) [
                          | inl same ↦ inr same
                          | inr other ↦
                              elim (found.3 c (omega arith) is) [
                                | inl comes ↦ inl (order.through c found.0 n comes earlier)
                                | inr at ↦ inl (ap (λ k. before k n) at ∙ earlier)
                              ]
                        ],
                      )
                  | inr later ↦
                      inr (
                        found.0,
                        omega (arith, found.1),
                        found.2,
                        λ c below is. elim (cases_eq c n) [
                          | inl same ↦ inl (ap (λ k. before k found.0) same ∙ later)
                          | inr other ↦ found.3 c (omega arith) is
                        ],
                      )
                ]
          ]
    ]

-- the other way round it is an order too
pub order_back : (n : ℕ) (before : ℕ → ℕ → Bool) → IsStrictOrder n before → IsStrictOrder n (λ a b. before b a)
order_back n before order = record {
  one_way = λ a b ab ba. order.one_way b a ab ba;
  through = λ a b c ab bc. order.through c b a bc ab;
  total = λ a b a_below b_below other. order.total b a b_below a_below (λ same. other (sym same));
}

-- how many of those reached come before p, and who has fewer than free before it
abbrev pub rank : ℕ → (ℕ → Bool) → (ℕ → ℕ → Bool) → ℕ → ℕ
rank n reached before p = count n (λ b. reached b && before b p)

abbrev pub leads : ℕ → ℕ → (ℕ → Bool) → (ℕ → ℕ → Bool) → ℕ → Bool
leads n free reached before p = reached p && nat_lt (rank n reached before p) free

-- not more lead than there are places
pub leads-le :
    (n free : ℕ) (reached : ℕ → Bool) (before : ℕ → ℕ → Bool) → IsStrictOrder n before
    → count n (leads n free reached before) ≤ free
leads-le n free reached before order =
    elim (find_last n n (leads n free reached before) before order (omega arith)) [
      | inl none ↦
          let few : count n (leads n free reached before) ≤ count n (λ _. false) =
          count-le n (leads n free reached before) (λ _. false)
          (λ c below is. absurd (none c below is)) in
          let zero_of : count n (λ _. false) ≡ 0 = count_none n in
          omega arith
      | inr found ↦
          let few : count n (leads n free reached before) ≤ rank n reached before found.0 + 1 =
          count-le_but_one n (leads n free reached before) (λ b. reached b && before b found.0) found.0
          (λ c below is.
          elim (found.3 c below is) [
            | inl comes ↦ inl (and_from (reached c) (before c found.0) (and_parts (reached c) _ is).0 comes)
            | inr at ↦ inr at
          ]) in
          let less : rank n reached before found.0 < free = ltb-true _ _ (and_parts (reached found.0) _ found.2).1 in
          omega arith
    ]

-- all places are taken, or all that have reached it lead
pub leads-ge :
    (n free : ℕ) (reached : ℕ → Bool) (before : ℕ → ℕ → Bool) → IsStrictOrder n before
    → (free ≤ count n (leads n free reached before))
    ⊎ (count n reached ≤ count n (leads n free reached before))
leads-ge n free reached before order =
    let lead : ℕ → Bool = leads n free reached before in
    let left : ℕ → Bool = λ c. reached c && not (lead c) in
    elim (find_last n n left (λ a b. before b a) (order_back n before order) (omega arith)) [
      | inl none ↦
          inr (count-le n reached lead (λ c below is.
          elim (cases_Bool (lead c)) [
            | inl leading ↦ leading
            | inr fails ↦ absurd (none c below (and_from (reached c) (not (lead c)) is (ap not fails)))
          ]))
      | inr found ↦
          let m : ℕ = found.0 in
          let parts : (reached m ≡ true) × (not (lead m) ≡ true) = and_parts (reached m) (not (lead m)) found.2 in
          let all_lead : rank n reached before m ≤ count n lead =
          count-le n (λ b. reached b && before b m) lead (λ c below is.
          let both : (reached c ≡ true) × (before c m ≡ true) = and_parts (reached c) (before c m) is in
          elim (cases_Bool (lead c)) [
            | inl leading ↦ leading
            | inr fails ↦
                elim (found.3 c below (and_from (reached c) (not (lead c)) both.0 (ap not fails))) [
                  | inl later ↦ absurd (order.one_way c m both.1 later)
                  | inr at ↦
                      absurd (let self : before m m ≡ true =
                      ap (λ k. before k m) (sym at) ∙ both.1 in
                      order.one_way m m self self)
                ]
          ]) in
          let late : free ≤ rank n reached before m =
          elim (cases_lt (rank n reached before m) free) [
            | inl less ↦
                absurd (let leading : lead m ≡ true =
                and_from (reached m) _ parts.0 (lt-ltb _ _ less) in
                let off = sym parts.1 ∙ ap not leading in cc)
            | inr past ↦ past
          ] in
          inl (omega arith)
    ]

-- who doesn't lead comes before none that leads
pub leads_first :
    (n free : ℕ) (reached : ℕ → Bool) (before : ℕ → ℕ → Bool) → IsStrictOrder n before → (a b : ℕ) → a < n
    → b < n → leads n free reached before a ≡ true → reached b ≡ true → leads n free reached before b ≡ false
    → before a b ≡ true
leads_first n free reached before order a b a_below b_below leading is fails =
    let other : a ≢ b = λ same. (let off = sym leading ∙ (ap (leads n free reached before) same ∙ fails) in cc) in
    elim (order.total a b a_below b_below other) [
      | inl first ↦ first
      | inr later ↦
          let less : rank n reached before b < rank n reached before a =
          count-lt n (λ c. reached c && before c b) (λ c. reached c && before c a) b b_below
          (and_right (reached b) (before b b) (irreflexive b))
          (and_from (reached b) (before b a) is later)
          (λ c below both.
          let parts : (reached c ≡ true) × (before c b ≡ true) = and_parts (reached c) (before c b) both in
          and_from (reached c) (before c a) parts.0 (order.through c b a parts.1 later)) in
          let few : rank n reached before a < free = ltb-true _ _ (and_parts (reached a) _ leading).1 in
          absurd
          (let b_leads : leads n free reached before b ≡ true = and_from (reached b) _ is (lt-ltb _ _ (omega arith)) in
          let off = sym b_leads ∙ fails in cc)
    ]
  where
    irreflexive : (c : ℕ) → before c c ≡ false
    irreflexive c =
        elim (cases_Bool (before c c)) [
          | inl self ↦ absurd (order.one_way c c self self)
          | inr never ↦ never
        ]
