use Rattle.std.proofs.Common.{◌≡◌, Bool, cond, not, length, ℕ, ◌+◌, ◌∷◌, ◌++◌, [], List, Some, sym, ap, ◌∙◌}
use Rattle.std.proofs.Common.{subst, take, arith}
use Rattle.std.proofs.lemmas.Grind.{common_steps}
use Rattle.ballot_table.specs.declared.column.Column.{Column}
use Rattle.ballot_table.specs.Head.{column_of, unlabelled}
use Rattle.ballot_table.specs.Texts.{is_in}
use Rattle.ballot_table.specs.Asked.{asked_of}
use Rattle.ballot_table.specs.Finding.{other_at, IsNext, IsSeen, IsSeenBy, IsShape}
use Rattle.ballot_table.proofs.HeadLemmas.{AreColumns, columns_begun, none_seen, seen_column, unlabelled_more}
use Rattle.ballot_table.proofs.HeadLemmas.{all_columns, all_counted, as_many_columns, as_many_names}
use Rattle.ballot_table.proofs.HeadLemmas.{column_fault, column_more, no_column_fault}
use Rattle.ballot_table.proofs.head.Head.columns.Goals as goal

pub loop-at-init : goal.loop-at-init
loop-at-init c =
    let a = c.args.asked.now in
    let texts = c.args.texts.now in
    record {
      columns =
          subst (λ (cs : List Column). AreColumns a texts 0 cs 0) (sym c.new-columns.ensures.items)
          (columns_begun a texts);
      seen = λ choices say.
          subst (λ (n : ℕ). IsSeen n [] c.in_ok-seen.seen.items) c.of-shape.ensures.shape.others
          (subst (IsSeen c.of-shape.result.others []) (sym c.in_ok-seen.ensures) (none_seen c.of-shape.result.others));
    }

pub column_of-requires-clause-shape : goal.column_of-requires-clause-shape
column_of-requires-clause-shape c =
    subst (λ (all : List (List ℕ)). IsShape (asked_of c.args.asked.now) all c.of-shape.result) (sym c.of-shape.ensures.texts)
    c.of-shape.ensures.shape

pub column_of-requires-clause-seen : goal.column_of-requires-clause-seen
column_of-requires-clause-seen c =
    let a = asked_of c.args.asked.now in
    subst (λ (seen : List Bool). IsSeenBy a c.of-shape.result.texts.now (take c.loop-at.at c.args.texts.now) seen)
    (sym c.deref.ensures.value)
    (subst (λ (all : List (List ℕ)). IsSeenBy a all (take c.loop-at.at c.args.texts.now) c.loop-at.seen.items)
    (sym c.of-shape.ensures.texts) c.loop-at.invariant.seen)

pub loop-at-preserved : goal.loop-at-preserved
loop-at-preserved c =
    let a = c.args.asked.now in
    let texts = c.args.texts.now in
    let l = c.loop-at in
    let text = c.index-texts-at.result in
    let column = c.in-Ok.column in
    let pushed : c.push.new.self.items ≡ l.columns.items ++ column ∷ [] = grind (arith, common_steps) in
    let all = c.of-shape.ensures.texts in
    let sound_is =
    sym (c.in-Ok.ensures.column
    ∙ ap (λ (ts : List (List ℕ)). column_of (asked_of a) ts (take l.at texts) c.bytes.result.now)
    all
    ∙ ap (column_of (asked_of a) texts (take l.at texts)) c.bytes.ensures) in
    let next = subst (λ (t : List ℕ). IsNext (asked_of a) l.others t column) c.bytes.ensures c.in-Ok.ensures.next in
    let more =
    column_more a texts l.at text c.loop-at-test.true c.index-texts-at.is l.columns.items l.others
    l.invariant.columns
    column sound_is next in
    record {
      columns = subst (λ (cs : List Column). AreColumns a texts (l.at + 1) cs
          (l.others + c.other_at-others.result)) (sym pushed)
          (subst (λ (n : ℕ). AreColumns a texts (l.at + 1) (l.columns.items ++ column ∷ []) (l.others + n))
          (sym (c.other_at-others.ensures ∙ ap (other_at (asked_of a)) c.bytes-in-Ok.ensures)) more);
      seen = λ choices say.
          subst (λ (before : List (List ℕ)). IsSeen (length (unlabelled (asked_of a) texts)) before c.see.new.seen.items)
          (sym (unlabelled_more a texts l.at text c.loop-at-test.true c.index-texts-at.is))
          (subst (IsSeen (length (unlabelled (asked_of a) texts))
          (unlabelled (asked_of a) (take l.at texts) ++ cond (not (is_in a.labels text)) (text ∷ []) [])) (sym c.see.ensures)
          (seen_column a texts (take l.at texts) text column l.seen.items choices say sound_is
          (l.invariant.seen choices say)));
    }

pub column_of-requires-clause-counted : goal.column_of-requires-clause-counted
column_of-requires-clause-counted c = c.loop-at.invariant.columns.counted

pub column_of-requires-clause-few : goal.column_of-requires-clause-few
column_of-requires-clause-few c = c.loop-at.invariant.columns.few

pub column_of-requires-clause-room : goal.column_of-requires-clause-room
column_of-requires-clause-room c =
    let few = c.loop-at.invariant.columns.inside in
    omega (arith, few, c.loop-at-test.true, c.if-texts.false)

pub returns-in-Err-clause-stop : goal.returns-in-Err-clause-stop
returns-in-Err-clause-stop c =
    let a = c.args.asked.now in
    let texts = c.args.texts.now in
    let l = c.loop-at in
    let all = c.of-shape.ensures.texts in
    let faulty =
    sym (c.in-Err.ensures.column
    ∙ ap (λ (ts : List (List ℕ)). column_of (asked_of a) ts (take l.at texts) c.bytes.result.now)
    all
    ∙ ap (column_of (asked_of a) texts (take l.at texts)) c.bytes.ensures) in
    column_fault a texts l.at c.index-texts-at.result c.loop-at-test.true c.index-texts-at.is l.columns.items l.others
    l.invariant.columns c.in-Err.kind faulty
    ∙ ap Some (sym c.fault_at.ensures)

pub returns-clause-sound : goal.returns-clause-sound
returns-clause-sound c =
    let l = c.loop-at in
    no_column_fault c.args.asked.now c.args.texts.now l.at c.loop-at-test.false l.columns.items l.others l.invariant.columns

pub returns-clause-head : goal.returns-clause-head
returns-clause-head c =
    let a = c.args.asked.now in
    let texts = c.args.texts.now in
    let l = c.loop-at in
    let so_far = l.invariant.columns in
    let counted = all_counted a texts l.at c.loop-at-test.false l.columns.items l.others so_far in
    record {
      columns_are = all_columns a texts l.at c.loop-at-test.false l.columns.items l.others so_far;
      others = counted;
      names = c.among.ensures ∙ as_many_names a texts l.others counted;
      candidates = as_many_columns a l.columns.items l.others so_far.sum ∙ sym c.among.ensures;
      few = let sum = so_far.sum in let few = so_far.few in omega (arith, sum, few);
    }
