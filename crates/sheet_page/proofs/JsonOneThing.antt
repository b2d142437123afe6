-- A text of JSON says one thing.
use Rattle.std.proofs.Common.{◌≡◌, ◌∙◌, refl, sym, ap, ℕ, ◌<◌, ◌||◌, Bool, true, false, arith, List, [], ◌∷◌}
use Rattle.std.proofs.Common.{◌++◌, drop, append_assoc}
use Rattle.std.specs.Prelude.{nat_lt}
use Rattle.sheet_page.specs.JsonGrammar.{Json, Items, Members, Text, Whole, Truth, Array, Object, NoItem}
use Rattle.sheet_page.specs.JsonGrammar.{Item, NoMember, Member}
use Rattle.sheet_page.specs.JsonGrammar.{IsTextOf, AreItems, AreMembers, IsString, closed, others_closed}
use Rattle.sheet_page.specs.Laws.{TextsSayOneThing}
use Rattle.sheet_page.proofs.JsonFronts.{Ends, strings-one, numbers-one, begin-alike, string-begins}
use Rattle.sheet_page.proofs.JsonFronts.{text-begins, kind, kind_of, kind-low}

heads : (x y : ℕ) (s t : List ℕ) → x ∷ s ≡ y ∷ t → x ≡ y
heads x y s t e = cc

truths-one :
    (m n : Bool) (s t a b : List ℕ) → IsTextOf (Truth m) s → IsTextOf (Truth n) t → s ++ a ≡ t ++ b → (m ≡ n) × (a ≡ b)
truths-one true true s t a b is other e =
    (refl, ap (λ (l : List ℕ). drop 4 l) (sym (ap (λ (l : List ℕ). l ++ a) is) ∙ e ∙ ap (λ (l : List ℕ). l ++ b) other))
truths-one false false s t a b is other e =
    (refl, ap (λ (l : List ℕ). drop 5 l) (sym (ap (λ (l : List ℕ). l ++ a) is) ∙ e ∙ ap (λ (l : List ℕ). l ++ b) other))
truths-one true false s t a b is other e =
    absurd (omega (arith, heads 116 102 _ _ (sym (ap (λ (l : List ℕ). l ++ a) is) ∙ e ∙ ap (λ (l : List ℕ). l ++ b) other)))
truths-one false true s t a b is other e =
    absurd (omega (arith, heads 102 116 _ _ (sym (ap (λ (l : List ℕ). l ++ a) is) ∙ e ∙ ap (λ (l : List ℕ). l ++ b) other)))

-- ---- pieces between brackets

ends-behind :
    (pieces : List (List ℕ)) (k : ℕ) (a : List ℕ) → nat_lt k 48 || nat_lt 57 k ≡ true → Ends (others_closed pieces k ++ a)
ends-behind [] k a is = is
ends-behind (piece ∷ pieces) k a is = refl

closed-of :
    (ps qs : List (List ℕ)) (k : ℕ) (a b : List ℕ) → 44 < k → others_closed ps k ++ a ≡ others_closed qs k ++ b
    → closed ps k ++ a ≡ closed qs k ++ b
closed-of [] [] k a b big e = e
closed-of [] (q ∷ qs) k a b big e = absurd (omega (arith, big, heads _ _ _ _ e))
closed-of (p ∷ ps) [] k a b big e = absurd (omega (arith, big, heads _ _ _ _ e))
closed-of (p ∷ ps) (q ∷ qs) k a b big e = ap (λ (l : List ℕ). drop 1 l) e

-- no piece begins with the bracket that closes its list
not-first : (y : Json) (k : ℕ) (q a b : List ℕ) → kind k ≡ 5 → IsTextOf y q → k ∷ a ≡ q ++ b → ⊥
not-first y k q a b is text e =
    omega (arith, kind-low y, begin-alike 5 (kind_of y) (k ∷ []) q a b is (text-begins y q text) e)

no-name : (key name a b : List ℕ) → IsString key name → 125 ∷ a ≡ name ++ b → ⊥
no-name key name a b is e = omega (arith, begin-alike 5 0 (125 ∷ []) name a b refl (string-begins key name is) e)

-- pieces as the whole of a text, and what is after it
whole :
    {s t u v : List ℕ} (a b : List ℕ) → s ≡ u → t ≡ v → s ++ a ≡ t ++ b → u ++ a ≡ v ++ b
whole a b is other e = sym (ap (λ (l : List ℕ). l ++ a) is) ∙ e ∙ ap (λ (l : List ℕ). l ++ b) other

-- a key, a colon and a value, and what is after them
parted :
    (piece name text rest : List ℕ) → piece ≡ name ++ 58 ∷ text → piece ++ rest ≡ name ++ 58 ∷ (text ++ rest)
parted piece name text rest is = ap (λ (l : List ℕ). l ++ rest) is ∙ append_assoc name (58 ∷ text) rest

-- ---- one value, whatever is after it

mutual
  pub value-one :
      (x y : Json) (s t a b : List ℕ) → IsTextOf x s → IsTextOf y t → Ends a → Ends b → s ++ a ≡ t ++ b
      → (x ≡ y) × (a ≡ b)
  value-one (Text key) (Text other) s t a b is same ends behind e =
      let both = strings-one s t key other a b is same e in
      (ap Text both.0, both.1)
  value-one (Whole m) (Whole n) s t a b is same ends behind e =
      let both = numbers-one m n a b is.0 same.0 ends behind (whole a b is.1 same.1 e) in
      (ap Whole both.0, both.1)
  value-one (Truth m) (Truth n) s t a b is same ends behind e =
      let both = truths-one m n s t a b is same e in
      (ap Truth both.0, both.1)
  value-one (Array xs) (Array ys) s t a b is same ends behind e =
      let both = items-one xs ys is.0 same.0 a b is.2 same.2 ends behind
      (ap (λ (l : List ℕ). drop 1 l) (whole a b is.1 same.1 e)) in
      (ap Array both.0, both.1)
  value-one (Object xs) (Object ys) s t a b is same ends behind e =
      let both = members-one xs ys is.0 same.0 a b is.2 same.2 ends behind
      (ap (λ (l : List ℕ). drop 1 l) (whole a b is.1 same.1 e)) in
      (ap Object both.0, both.1)
  value-one x y s t a b is same ends behind e =
      absurd (omega (arith, begin-alike (kind_of x) (kind_of y) s t a b (text-begins x s is) (text-begins y t same) e))

  items-one :
      (xs ys : Items) (ps qs : List (List ℕ)) (a b : List ℕ) → AreItems xs ps → AreItems ys qs → Ends a → Ends b
      → closed ps 93 ++ a ≡ closed qs 93 ++ b → (xs ≡ ys) × (a ≡ b)
  items-one NoItem NoItem ps qs a b is same ends behind e = (
    refl,
    ap (λ (l : List ℕ). drop 1 l) (sym (ap (λ (l : List (List ℕ)). closed l 93 ++ a) is) ∙ e
        ∙ ap (λ (l : List (List ℕ)). closed l 93 ++ b) same),
  )
  items-one NoItem (Item y ys) ps [] a b is same ends behind e = absurd same
  items-one NoItem (Item y ys) ps (q ∷ qs) a b is same ends behind e =
      absurd (not-first y 93 q a (others_closed qs 93 ++ b) refl same.0
      (sym (ap (λ (l : List (List ℕ)). closed l 93 ++ a) is) ∙ e ∙ append_assoc q (others_closed qs 93) b))
  items-one (Item x xs) NoItem [] qs a b is same ends behind e = absurd is
  items-one (Item x xs) NoItem (p ∷ ps) qs a b is same ends behind e =
      absurd (not-first x 93 p b (others_closed ps 93 ++ a) refl is.0
      (sym (ap (λ (l : List (List ℕ)). closed l 93 ++ b) same) ∙ sym e ∙ append_assoc p (others_closed ps 93) a))
  items-one (Item x xs) (Item y ys) [] qs a b is same ends behind e = absurd is
  items-one (Item x xs) (Item y ys) (p ∷ ps) [] a b is same ends behind e = absurd same
  items-one (Item x xs) (Item y ys) (p ∷ ps) (q ∷ qs) a b is same ends behind e =
      let both = value-one x y p q (others_closed ps 93 ++ a) (others_closed qs 93 ++ b) is.0 same.0
      (ends-behind ps 93 a refl) (ends-behind qs 93 b refl)
      (sym (append_assoc p (others_closed ps 93) a) ∙ e ∙ append_assoc q (others_closed qs 93) b) in
      let rest = items-one xs ys ps qs a b is.1 same.1 ends behind (closed-of ps qs 93 a b (omega arith) both.1) in
      (ap (λ (v : Json). Item v xs) both.0 ∙ ap (Item y) rest.0, rest.1)

  members-one :
      (xs ys : Members) (ps qs : List (List ℕ)) (a b : List ℕ) → AreMembers xs ps → AreMembers ys qs → Ends a → Ends b
      → closed ps 125 ++ a ≡ closed qs 125 ++ b → (xs ≡ ys) × (a ≡ b)
  members-one NoMember NoMember ps qs a b is same ends behind e = (
    refl,
    ap (λ (l : List ℕ). drop 1 l) (sym (ap (λ (l : List (List ℕ)). closed l 125 ++ a) is) ∙ e
        ∙ ap (λ (l : List (List ℕ)). closed l 125 ++ b) same),
  )
  members-one NoMember (Member key y ys) ps [] a b is same ends behind e = absurd same
  members-one NoMember (Member key y ys) ps (q ∷ qs) a b is same ends behind e =
      let one = same.0 in
      absurd (no-name key one.0 a (58 ∷ (one.1 ++ (others_closed qs 125 ++ b))) one.3
      (sym (ap (λ (l : List (List ℕ)). closed l 125 ++ a) is) ∙ e ∙ append_assoc q (others_closed qs 125) b
      ∙ parted q one.0 one.1 (others_closed qs 125 ++ b) one.2))
  members-one (Member key x xs) NoMember [] qs a b is same ends behind e = absurd is
  members-one (Member key x xs) NoMember (p ∷ ps) qs a b is same ends behind e =
      let one = is.0 in
      absurd (no-name key one.0 b (58 ∷ (one.1 ++ (others_closed ps 125 ++ a))) one.3
      (sym (ap (λ (l : List (List ℕ)). closed l 125 ++ b) same) ∙ sym e ∙ append_assoc p (others_closed ps 125) a
      ∙ parted p one.0 one.1 (others_closed ps 125 ++ a) one.2))
  members-one (Member key x xs) (Member other y ys) [] qs a b is same ends behind e = absurd is
  members-one (Member key x xs) (Member other y ys) (p ∷ ps) [] a b is same ends behind e = absurd same
  members-one (Member key x xs) (Member other y ys) (p ∷ ps) (q ∷ qs) a b is same ends behind e =
      let one = is.0 in
      let two = same.0 in
      let more = others_closed ps 125 ++ a in
      let rest = others_closed qs 125 ++ b in
      let keys = strings-one one.0 two.0 key other (58 ∷ (one.1 ++ more)) (58 ∷ (two.1 ++ rest)) one.3 two.3
      (sym (parted p one.0 one.1 more one.2) ∙ sym (append_assoc p (others_closed ps 125) a) ∙ e
      ∙ append_assoc q (others_closed qs 125) b ∙ parted q two.0 two.1 rest two.2) in
      let both = value-one x y one.1 two.1 more rest one.4 two.4 (ends-behind ps 125 a refl) (ends-behind qs 125 b refl)
      (ap (λ (l : List ℕ). drop 1 l) keys.1) in
      let all = members-one xs ys ps qs a b is.1 same.1 ends behind (closed-of ps qs 125 a b (omega arith) both.1) in (
        ap (λ (k : List ℕ). Member k x xs) keys.0 ∙ ap (λ (v : Json). Member other v xs) both.0
            ∙ ap (Member other y) all.0,
        all.1,
      )

pub texts_say : TextsSayOneThing
texts_say x y bytes one two = (value-one x y bytes bytes [] [] one two tt tt refl).0
