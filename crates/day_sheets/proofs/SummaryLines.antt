-- The lines of a summary, one after another.
use Rattle.std.proofs.Common.{◌≡◌, ℕ, List, [], ◌∷◌, ◌++◌, refl, sym, ap, ◌∙◌, append-nil, append_assoc}
use Rattle.std.proofs.lemmas.List.Concat.{flat_map-append}
use Rattle.sheet_text.specs.Lines.{ended, text_of_lines}

no_lines : text_of_lines [] ≡ []
unfolding text_of_lines
no_lines = refl

text_more : (lines : List (List ℕ)) (line : List ℕ) → text_of_lines (lines ++ line ∷ []) ≡ text_of_lines lines ++ ended line
unfolding text_of_lines
text_more lines line =
    flat_map-append ended lines (line ∷ []) ∙ ap (λ (l : List ℕ). text_of_lines lines ++ l) (append-nil (ended line))

-- a line after the lines so far
one_more :
    (lines : List (List ℕ)) (line text more : List ℕ) → text ≡ text_of_lines lines → more ≡ text ++ ended line
    → more ≡ text_of_lines (lines ++ line ∷ [])
one_more lines line text more is put = put ∙ (ap (λ (t : List ℕ). t ++ ended line) is ∙ sym (text_more lines line))

-- six lines, and one that is put together of a word and a list
pub seven_lines :
    (a b c d e f word list : List ℕ) (t t1 t2 t3 t4 t5 t6 t7 t8 t9 : List ℕ)
    → t ≡ [] → t1 ≡ t ++ ended a → t2 ≡ t1 ++ ended b → t3 ≡ t2 ++ ended c → t4 ≡ t3 ++ ended d
    → t5 ≡ t4 ++ ended e → t6 ≡ t5 ++ ended f
    → t7 ≡ t6 ++ word → t8 ≡ t7 ++ list → t9 ≡ t8 ++ 10 ∷ []
    → t9 ≡ text_of_lines (a ∷ b ∷ c ∷ d ∷ e ∷ f ∷ (word ++ list) ∷ [])
seven_lines a b c d e f word list t t1 t2 t3 t4 t5 t6 t7 t8 t9 none one two three four five six begun listed end =
    let l1 = one_more [] a t t1 (none ∙ sym no_lines) one in
    let l2 = one_more (a ∷ []) b t1 t2 l1 two in
    let l3 = one_more (a ∷ b ∷ []) c t2 t3 l2 three in
    let l4 = one_more (a ∷ b ∷ c ∷ []) d t3 t4 l3 four in
    let l5 = one_more (a ∷ b ∷ c ∷ d ∷ []) e t4 t5 l4 five in
    let l6 = one_more (a ∷ b ∷ c ∷ d ∷ e ∷ []) f t5 t6 l5 six in
    let last : t9 ≡ t6 ++ ended (word ++ list) =
    end
    ∙ (ap (λ (l : List ℕ). l ++ 10 ∷ []) (listed ∙ (ap (λ (l : List ℕ). l ++ list) begun ∙ append_assoc t6 word list))
    ∙ append_assoc t6 (word ++ list) (10 ∷ [])) in
    one_more (a ∷ b ∷ c ∷ d ∷ e ∷ f ∷ []) (word ++ list) t6 t9 l6 last
