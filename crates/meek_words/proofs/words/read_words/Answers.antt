use Rattle.std.proofs.Common.{◌≡◌, ◌∙◌, sym, subst, ◌∷◌, map, string_bytes}
use Rattle.std.proofs.lemmas.Bool.{false≢true}
use Rattle.std.proofs.lemmas.Result.{IfOk-weaker}
use Rattle.meek_words.specs.Forms.{HasForm, Says, first_word}
use Rattle.meek_words.specs.Values.{given_by}
use Rattle.meek_words.proofs.FormLemmas.{have_one_command, form_from_parts, form_parts, form_first}
use Rattle.meek_words.proofs.words.read_words.Goals as goal

pub returns-then-not-is_spelled-clause-refused : goal.returns-then-not-is_spelled-clause-refused
returns-then-not-is_spelled-clause-refused c _ command form =
    let first = string_bytes c.in-Some.first.now in
    let behind = map string_bytes c.in-Some.behind.now in
    let form' = subst (λ words. HasForm (map string_bytes words) command) c.in-Some.ensures.cases.0 form in
    false≢true (sym c.if-not-is_spelled.true ∙ c.is_spelled.ensures.1 (form'.parts, form_parts first behind command form'))

pub returns-clause-refused : goal.returns-clause-refused
returns-clause-refused c refused command form =
    let first = string_bytes c.in-Some.first.now in
    let behind = map string_bytes c.in-Some.behind.now in
    let form' = subst (λ words. HasForm (map string_bytes words) command) c.in-Some.ensures.cases.0 form in
    let given = c.in_ok-values.ensures.found form'.parts (form_parts first behind command form') in
    c.from_values.ensures.refused refused command (c.deref.ensures ∙ form_first first behind command form')
    (subst (Says command) (sym given) form'.says)

pub returns-clause-one : goal.returns-clause-one
returns-clause-one c command form =
    let first = string_bytes c.in-Some.first.now in
    let behind = map string_bytes c.in-Some.behind.now in
    let form' = subst (λ words. HasForm (map string_bytes words) command) c.in-Some.ensures.cases.0 form in
    let are = form_parts first behind command form' in
    let given = c.in_ok-values.ensures.found form'.parts are in
    IfOk-weaker c.from_values.result
    (λ read. (c.deref.result.now ≡ first_word read) × Says read (given_by c.in_ok-values.values))
    (λ read. read ≡ command)
    (λ read says. have_one_command (first ∷ behind) read command (form_from_parts first behind form'.parts
    read are (sym c.deref.ensures ∙ says.0) (subst (Says read) given says.1)) form')
    c.from_values.ensures.accepted
