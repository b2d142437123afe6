use Rattle.std.proofs.Common.{◌≡◌, ◌∙◌, ◌++◌, [], ◌∷◌, List, ℕ, ap, append_assoc, subst, sym}
use Rattle.std.specs.Prelude.{OnOk, codes}
use Rattle.fixed_place.specs.Text.{text_of}
use Rattle.sheet_text.specs.Lines.{ended}
use Rattle.count_promise.specs.Lines.{amount_line, within_line}
use Rattle.count_promise.proofs.Pushes.{pushed, pushed_last}
use Rattle.count_promise.proofs.lines.push_bound.Goals as goal

-- texts after others, and the line feed after all
behind : (w a q s n : List ℕ) → w ++ a ++ q ++ (s ++ n) ≡ w ++ ((a ++ (q ++ s)) ++ n)
behind w a q s n =
    append_assoc (w ++ a) q (s ++ n)
    ∙ append_assoc w a (q ++ (s ++ n))
    ∙ ap (λ (l : List ℕ). w ++ (a ++ l)) (sym (append_assoc q s n))
    ∙ ap (λ (l : List ℕ). w ++ l) (sym (append_assoc a (q ++ s) n))

pub returns : goal.returns
returns c =
    let old : List ℕ = c.args.text.now in
    let within : List ℕ = ended (within_line c.args.over) in
    let any : List ℕ =
    codes "Any voters who rank the same candidates, in any order, above all others who run, and are at least k quotas of " in
    let quota : List ℕ = text_of 9 c.args.quota in
    let rest : List ℕ =
    amount_line (codes " votes and ") c.args.over
    (codes " votes more, have k of these candidates elected, or all of these who run where they are fewer than k.") in
    let first = pushed old within any _ _ c.in_ok-push_amount.ensures c.in_ok-push_bytes.ensures in
    let second = pushed old (within ++ any) quota _ _ first c.in_ok-push_units.ensures in
    let all =
    pushed_last old (within ++ any ++ quota) (ended rest) _ _ c.push_amount-2.result second c.push_amount-2.ensures in
    subst (λ (l : List ℕ). OnOk c.push_amount-2.result (c.push_amount-2.new.text ≡ old ++ l))
    (behind within any quota rest (10 ∷ [])) all
