use Rattle.std.proofs.Common.{sym, ◌∙◌, ap, subst, arith}
use Rattle.std.proofs.lemmas.Result.{err_from_is_err_and}
use Rattle.input_text.specs.declared.fault_kind.FaultKind.TheVariants.{BadWithdrawn, BadNumber}
use Rattle.input_text.specs.declared.what.What.{What}
use Rattle.input_text.specs.Token.{with_front}
use Rattle.input_text.specs.Reader.{said}
use Rattle.input_text.specs.Range.{IsIn}
use Rattle.input_text.proofs.Reading.{behind_trans, behind_itself, fewer_left}
use Rattle.blt_reader.proofs.OpeningSteps.{one_withdrawn, listed_each, withdrawn_refused, withdrawn_ended}
use Rattle.blt_reader.proofs.OpeningSteps.{NotWithdrawn, bad_withdrawn, no_count}
use Rattle.blt_reader.proofs.opening.read_withdrawn.Goals as goal
use Rattle.blt_reader.proofs.opening.read_withdrawn.Goals.{then-n-ge1+else-n-candidates, else-n-ge1}

pub returns-in_err-token-clause-reads : goal.returns-in_err-token-clause-reads
returns-in_err-token-clause-reads c =
    let p = err_from_is_err_and c.from_residual-in_err-token.result c.from_residual-in_err-token.ensures.1 in
    rw (p.1, p.2) (withdrawn_ended c.args.candidates _ _ _ _ _ c.loop-named.invariant.so_far c.in_err-token.ensures.fault)

pub returns-in-Minus-2-clause-reads : goal.returns-in-Minus-2-clause-reads
returns-in-Minus-2-clause-reads c =
    let token = c.in_ok-token.token in
    let bytes = c.loop-named.tokens.bytes in
    let outside : IsIn c.args.candidates c.in-Minus.n → ⊥ =
    λ is. elim c.if-n-ge1.branch
    [ then-n-ge1+else-n-candidates w ↦ absurd (omega (arith, is.most)) | else-n-ge1 w ↦ absurd (omega (arith, is.least)) ] in
    let refused : NotWithdrawn c.args.candidates (said bytes token.at token.stop token.what) BadWithdrawn =
    subst (λ (w : What). NotWithdrawn c.args.candidates (said bytes token.at token.stop w) BadWithdrawn) (sym c.in-Minus.is)
    (bad_withdrawn c.args.candidates c.in-Minus.n outside) in
    rw c.refused.ensures (withdrawn_refused c.args.candidates _ _ _ _ _ BadWithdrawn
    c.loop-named.invariant.so_far c.in_ok-token.ensures.token refused)

pub returns-in_default-clause-reads : goal.returns-in_default-clause-reads
returns-in_default-clause-reads c =
    let token = c.in_ok-token.token in
    rw c.refused-in_default.ensures (withdrawn_refused c.args.candidates _ _ _ _ _ BadNumber
    c.loop-named.invariant.so_far c.in_ok-token.ensures.token
    (no_count c.args.candidates c.loop-named.tokens.bytes token.at token.stop token.what
    c.in_default.not-Number c.in_default.not-Minus))

pub loop-named-preserved : goal.loop-named-preserved
loop-named-preserved c =
    let before = c.loop-named.invariant in
    let token = c.in_ok-token.token in
    let n = c.in-Minus.n in
    let more = c.in_ok-list_once-in-Minus.ensures.more in
    let is : IsIn c.args.candidates n = record { least = c.if-n-ge1.true; most = c.if-n-candidates.true } in
    let given =
    c.in_ok-token.ensures.token
    ∙ ap (λ (w : What). with_front (record { at = token.at; item = said c.loop-named.tokens.bytes token.at token.stop w })
    c.next_token.new.self.rest) c.in-Minus.is in
    record {
      so_far = one_withdrawn c.args.candidates _ _ _ _ _ n token.at before.so_far given is more;
      each = listed_each (IsIn c.args.candidates) _ _ n before.each is more;
      marks = c.in_ok-list_once-in-Minus.ensures.marks;
      numbers = c.in_ok-list_once-in-Minus.ensures.numbers ∙ before.numbers;
      behind = behind_trans before.behind c.in_ok-token.ensures.behind;
    }

pub returns-in_err-token-clause-behind : goal.returns-in_err-token-clause-behind
returns-in_err-token-clause-behind c = behind_trans c.loop-named.invariant.behind c.in_err-token.ensures.behind

pub returns-in-Number-clause-behind : goal.returns-in-Number-clause-behind
returns-in-Number-clause-behind c = behind_trans c.loop-named.invariant.behind c.in_ok-token.ensures.behind

pub returns-in_err-list_once-in-Minus-clause-behind : goal.returns-in_err-list_once-in-Minus-clause-behind
returns-in_err-list_once-in-Minus-clause-behind c = behind_trans c.loop-named.invariant.behind c.in_ok-token.ensures.behind

pub returns-in-Minus-2-clause-behind : goal.returns-in-Minus-2-clause-behind
returns-in-Minus-2-clause-behind c = behind_trans c.loop-named.invariant.behind c.in_ok-token.ensures.behind

pub returns-in_default-clause-behind : goal.returns-in_default-clause-behind
returns-in_default-clause-behind c = behind_trans c.loop-named.invariant.behind c.in_ok-token.ensures.behind

pub loop-named-smaller : goal.loop-named-smaller
loop-named-smaller c =
    omega
    (arith, fewer_left c.loop-named.tokens.rest c.next_token.new.self.rest _ c.in_ok-token.ensures.token)

pub returns-in_err-named-clause-behind : goal.returns-in_err-named-clause-behind
returns-in_err-named-clause-behind c = behind_itself c.args.tokens.now
