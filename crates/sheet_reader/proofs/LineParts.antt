-- The lines of a sheet are read part by part in one way.
use Rattle.std.proofs.Common.{◌≡◌, ℕ, zero, suc, ◌+◌, ◌-◌, ◌<◌, Bool, true, false, cond, List, [], ◌∷◌, ◌++◌}
use Rattle.std.proofs.Common.{length, replicate, refl, sym, ◌∙◌, ap, arith, append_assoc, append-nil}
use Rattle.std.proofs.Common.{length-append, add-zero}
use Rattle.std.specs.Prelude.{◌≢◌}
use Rattle.std.specs.List.{list_any}
use Rattle.std.proofs.lemmas.List.FromFn.{map-range_with_len_more}
use Rattle.lot_order.specs.Flags.{mark_at}
use Rattle.meek_rule.specs.Places.{each_place}
use Rattle.sheet_text.specs.Lines.{listed, marked_lines}

pub heads : {A : Type 0} (a b : A) (xs ys : List A) → a ∷ xs ≡ b ∷ ys → (a ≡ b) × (xs ≡ ys)
heads a b xs ys e = (cc, cc)

-- after the same front
pub behind_front : (front xs ys : List ℕ) → front ++ xs ≡ front ++ ys → xs ≡ ys
behind_front [] xs ys e = e
behind_front (b ∷ front) xs ys e = behind_front front xs ys (heads b b (front ++ xs) (front ++ ys) e).1

-- after fronts of the same length
pub behind_as_long : {A : Type 0} (xs ys a b : List A) → length xs ≡ length ys → xs ++ a ≡ ys ++ b → (xs ≡ ys) × (a ≡ b)
behind_as_long [] [] a b l e = (refl, e)
behind_as_long [] (y ∷ ys) a b l e = absurd (omega (arith, l))
behind_as_long (x ∷ xs) [] a b l e = absurd (omega (arith, l))
behind_as_long (x ∷ xs) (y ∷ ys) a b l e =
    let h = heads x y (xs ++ a) (ys ++ b) e in
    let r = behind_as_long xs ys a b (omega (arith, l)) h.1 in
    ((λ i. h.0 i ∷ r.0 i), r.1)

pub each_place-more : {X : Type 0} (f : ℕ → X) (n : ℕ) → each_place (n + 1) f ≡ each_place n f ++ f n ∷ []
each_place-more f n = map-range_with_len_more f 0 n n (omega arith)

pub length-each_place : {X : Type 0} (f : ℕ → X) (n : ℕ) → length (each_place n f) ≡ n
length-each_place f zero = refl
length-each_place f (suc n) =
    let more : each_place (suc n) f ≡ each_place n f ++ f n ∷ [] =
    ap (λ (k : ℕ). each_place k f) {x = suc n} {y = n + 1} (omega arith) ∙ each_place-more f n in
    ap (λ xs. length xs) more ∙ length-append (each_place n f) (f n ∷ []) ∙ omega (arith, length-each_place f n)

-- equal at each place
pub each_place-same : {X : Type 0} (f g : ℕ → X) (n : ℕ) → ((p : ℕ) → p < n → f p ≡ g p) → each_place n f ≡ each_place n g
each_place-same f g zero h = refl
each_place-same {X} f g (suc n) h =
    let one : suc n ≡ n + 1 = omega arith in
    ap (λ (k : ℕ). each_place k f) one ∙ each_place-more f n
    ∙ (λ i. each_place-same f g n (λ p l. h p (omega (arith, l))) i ++ h n (omega arith) i ∷ [])
    ∙ sym (ap (λ (k : ℕ). each_place k g) one ∙ each_place-more g n)

-- the first places stand in front
each_place-front : {X : Type 0} (f : ℕ → X) (n k : ℕ) → (rest : List X) × (each_place (n + k) f ≡ each_place n f ++ rest)
each_place-front f n zero = ([], rw add-zero (sym (append-nil (each_place n f))))
each_place-front {X = X} f n (suc k) =
    let before = each_place-front f n k in
    let more : each_place (n + k + 1) f ≡ each_place n f ++ (before.0 ++ f (n + k) ∷ []) =
    each_place-more f (n + k) ∙ ap (λ (xs : List X). xs ++ f (n + k) ∷ []) before.1
    ∙ append_assoc (each_place n f) before.0 (f (n + k) ∷ []) in
    (before.0 ++ f (n + k) ∷ [], ap (λ (m : ℕ). each_place m f) (omega arith) ∙ more)

-- The place p comes next, where the places before it were read.
pub next_place : {X : Type 0} (f g : ℕ → X) (p n : ℕ) (all left rest : List X) → p < n
    → all ≡ each_place p f ++ left → all ≡ each_place n g ++ rest → (more : List X) × (left ≡ g p ∷ more)
next_place {X} f g p n all left rest below read other =
    let front = each_place-front g (p + 1) (n - (p + 1)) in
    let split : each_place n g ≡ (each_place p g ++ g p ∷ []) ++ front.0 =
    ap (λ (k : ℕ). each_place k g) {x = n} {y = p + 1 + (n - (p + 1))} (omega arith) ∙ front.1
    ∙ ap (λ (xs : List X). xs ++ front.0) (each_place-more g p) in
    let whole : each_place p f ++ left ≡ each_place p g ++ (g p ∷ (front.0 ++ rest)) =
    sym read ∙ other ∙ ap (λ (xs : List X). xs ++ rest) split
    ∙ append_assoc (each_place p g ++ g p ∷ []) front.0 rest
    ∙ append_assoc (each_place p g) (g p ∷ []) (front.0 ++ rest) in (
      front.0 ++ rest,
      (behind_as_long (each_place p f) (each_place p g) left (g p ∷ (front.0 ++ rest))
          (length-each_place f p ∙ sym (length-each_place g p)) whole).1,
    )

-- after all places
pub behind_places :
    {X : Type 0} (f g : ℕ → X) (n : ℕ) (left rest : List X) → each_place n f ++ left ≡ each_place n g ++ rest
    → left ≡ rest
behind_places f g n left rest e =
    (behind_as_long (each_place n f) (each_place n g) left rest (length-each_place f n ∙ sym (length-each_place g n)) e).1

-- one place more was read
pub read_more : {X : Type 0} (f g : ℕ → X) (p : ℕ) (all left new : List X) (line : X)
    → ((q : ℕ) → q < p → f q ≡ g q) → all ≡ each_place p f ++ left → left ≡ line ∷ new → line ≡ g p
    → all ≡ each_place (p + 1) g ++ new
read_more {X} f g p all left new line same read next is =
    read ∙ (λ i. each_place-same f g p same i ++ next i) ∙ ap (λ (x : X). each_place p g ++ x ∷ new) is
    ∙ sym (ap (λ (xs : List X). xs ++ new) (each_place-more g p) ∙ append_assoc (each_place p g) (g p ∷ []) new)

-- where nobody is marked there is no line, and else one
pub any_none : (marks : List Bool) → list_any (λ mark. mark) marks ≡ false → (c : ℕ) → listed c marks ≡ []
any_none [] e c = refl
any_none (true ∷ marks) e c = absurd cc
any_none (false ∷ marks) e c = any_none marks e (c + 1)

any_some : (marks : List Bool) → list_any (λ mark. mark) marks ≡ true → (c : ℕ) → listed c marks ≢ []
any_some [] e c is = absurd cc
any_some (true ∷ marks) e c is = absurd cc
any_some (false ∷ marks) e c is = any_some marks e (c + 1) is

none_marked : (n : ℕ) → list_any (λ mark. mark) (replicate n false) ≡ false
none_marked zero = refl
none_marked (suc n) = none_marked n

pub no_line : (word : List ℕ) (n : ℕ) → marked_lines word (replicate n false) ≡ []
no_line word n = ap (λ (t : Bool). cond t ((word ++ listed 1 (replicate n false)) ∷ []) []) (none_marked n)

pub marked_or_not :
    (word : List ℕ) (marks : List Bool) (t : Bool) → list_any (λ mark. mark) marks ≡ t
    → marked_lines word marks ≡ cond t ((word ++ listed 1 marks) ∷ []) []
marked_or_not word marks t e = ap (λ (t : Bool). cond t ((word ++ listed 1 marks) ∷ []) []) e

-- a line with a list that is not empty
pub line_of_list :
    (word list : List ℕ) (marks : List Bool) → 0 < length list → list ≡ listed 1 marks
    → marked_lines word marks ≡ (word ++ list) ∷ []
line_of_list word list marks some is = by (list_any (λ mark. mark) marks) refl
  where
    by : (t : Bool) → list_any (λ mark. mark) marks ≡ t → marked_lines word marks ≡ (word ++ list) ∷ []
    by true e = marked_or_not word marks true e ∙ ap (λ (t : List ℕ). (word ++ t) ∷ []) (sym is)
    by false e = absurd (omega (arith, some, ap (λ (t : List ℕ). length t) (is ∙ any_none marks e 1)))

-- Where no line begins with the word, there is no line of marks.
pub without_line : (word : List ℕ) (marks : List Bool) (lines rest : List (List ℕ))
    → ((text : List ℕ) (more : List (List ℕ)) → lines ≢ (word ++ text) ∷ more)
    → lines ≡ marked_lines word marks ++ rest → lines ≡ rest
without_line word marks lines rest other is = by (list_any (λ mark. mark) marks) refl
  where
    by : (t : Bool) → list_any (λ mark. mark) marks ≡ t → lines ≡ rest
    by true e =
        absurd (other (listed 1 marks) rest
        (is ∙ ap (λ (ls : List (List ℕ)). ls ++ rest) (marked_or_not word marks true e)))
    by false e = is ∙ ap (λ (ls : List (List ℕ)). ls ++ rest) (marked_or_not word marks false e)

-- Where a line begins with the word, and the rest does not, it is the line of the marks.
pub with_line : (word list : List ℕ) (marks : List Bool) (lines new rest : List (List ℕ))
    → ((text : List ℕ) (more : List (List ℕ)) → rest ≢ (word ++ text) ∷ more)
    → lines ≡ (word ++ list) ∷ new → lines ≡ marked_lines word marks ++ rest
    → (list ≡ listed 1 marks) × (listed 1 marks ≢ []) × (new ≡ rest)
with_line word list marks lines new rest other first is = by (list_any (λ mark. mark) marks) refl
  where
    by : (t : Bool) → list_any (λ mark. mark) marks ≡ t → (list ≡ listed 1 marks) × (listed 1 marks ≢ []) × (new ≡ rest)
    by true e =
        let h =
        heads (word ++ list) (word ++ listed 1 marks) new rest
        (sym first ∙ is ∙ ap (λ (ls : List (List ℕ)). ls ++ rest) (marked_or_not word marks true e)) in
        (behind_front word list (listed 1 marks) h.0, any_some marks e 1, h.1)
    by false e =
        absurd (other list new (sym (sym first ∙ is
        ∙ ap (λ (ls : List (List ℕ)). ls ++ rest) (marked_or_not word marks false e))))

-- who is among the tied is a candidate
pub inside : (marks : List Bool) (p : ℕ) → mark_at marks p ≡ true → p < length marks
inside [] p e = absurd cc
inside (m ∷ marks) zero e = omega arith
inside (m ∷ marks) (suc p) e = omega (arith, inside marks p e)
