-- Words have at most one form.
use Rattle.std.proofs.Common.{◌≡◌, ℕ, ◌≤◌, length, Option, Some, None, List, [], ◌∷◌, ap, sym, subst, ◌∙◌, arith, get_or}
use Rattle.std.specs.List.{flat_map}
use Rattle.meek_trial.specs.declared.day.TheConstants.{MOST_TRIAL}
use Rattle.meek_words.specs.declared.limits.TheConstants.{MOST_SHARDS, MOST_WORKERS, SHARDS, WORKERS}
use Rattle.meek_words.specs.Numerals.{Word, IsNumeralUpTo, IsLotList, number_of}
use Rattle.meek_words.specs.Parts.{Part, AreParts, Given, values_of, given_of, words_of}
use Rattle.meek_words.specs.Settings.{IsSetting}
use Rattle.meek_words.specs.Forms.{HasForm, HasSettings, IsOnce, Says, first_word, HaveOneCommand}
use Rattle.meek_words.specs.declared.command.Command.{Command}
use Rattle.meek_words.specs.declared.command.Command.TheVariants.{Count, Day, Trial}
use Rattle.meek_words.specs.declared.option_name.OptionName.{OptionName}
use Rattle.meek_words.specs.declared.option_name.OptionName.TheVariants.{Lots, Shards, Workers}
use Rattle.meek_words.proofs.CutLemmas.{same_parts}
use Rattle.meek_words.proofs.LotListLemmas.{one_lot_list}

same_setting :
    (greatest default : ℕ) (words : List Word) (m n : ℕ) → IsSetting greatest default words m
    → IsSetting greatest default words n → m ≡ n
same_setting greatest default [] m n hm hn = hm ∙ sym hn
same_setting greatest default (word ∷ []) m n hm hn = hm.1 ∙ sym hn.1
same_setting greatest default (word ∷ again ∷ words) m n hm hn = absurd hm

same_lots :
    (words : List Word) (lots others : List ℕ) → IsOnce (λ word. IsLotList word lots) words
    → IsOnce (λ word. IsLotList word others) words → lots ≡ others
same_lots [] lots others h k = absurd h
same_lots (word ∷ []) lots others h k = one_lot_list word lots others h k
same_lots (word ∷ again ∷ words) lots others h k = absurd h

abbrev IsTrialNumber : ℕ → Word → Type 0
IsTrialNumber number word = IsNumeralUpTo MOST_TRIAL word × (number ≡ number_of word)

same_number : (words : List Word) (m n : ℕ) → IsOnce (IsTrialNumber m) words → IsOnce (IsTrialNumber n) words → m ≡ n
same_number [] m n h k = absurd h
same_number (word ∷ []) m n h k = h.1 ∙ sym k.1
same_number (word ∷ again ∷ words) m n h k = absurd h

shards_same : (given : Given) (s w s' w' : ℕ) → HasSettings given s w → HasSettings given s' w' → s ≡ s'
shards_same given s w s' w' h k = same_setting MOST_SHARDS SHARDS given.shards s s' h.shards_in k.shards_in

workers_same : (given : Given) (s w s' w' : ℕ) → HasSettings given s w → HasSettings given s' w' → w ≡ w'
workers_same given s w s' w' h k = same_setting MOST_WORKERS WORKERS given.workers w w' h.workers_in k.workers_in

-- commands of the same first word that the same values say are one
pub one_says :
    (given : Given) (one other : Command) → first_word one ≡ first_word other → Says one given
    → Says other given → one ≡ other
one_says given (Count lots s w) (Count lots' s' w') e h k =
    λ i. Count (same_lots given.lots lots lots' h.1 k.1 i) (shards_same given s w s' w' h.0 k.0 i)
    (workers_same given s w s' w' h.0 k.0 i)
one_says given (Day s w) (Day s' w') e h k =
    λ i. Day (shards_same given s w s' w' h.0 k.0 i) (workers_same given s w s' w' h.0 k.0 i)
one_says given (Trial n s w) (Trial n' s' w') e h k =
    λ i. Trial (same_number given.plain n n' h.2 k.2 i) (shards_same given s w s' w' h.0 k.0 i)
    (workers_same given s w s' w' h.0 k.0 i)
one_says given one other e h k = absurd (omega (arith, ap (λ word. get_or word 0 0) e))

pub have_one_command : HaveOneCommand
have_one_command words one other h k =
    let e = sym h.spelled ∙ k.spelled in
    let first : first_word one ≡ first_word other = cc in
    let behind : flat_map words_of h.parts ≡ flat_map words_of k.parts = cc in
    let parts = same_parts h.parts k.parts h.values k.values behind in
    one_says (given_of h.parts) one other first h.says (subst (λ list. Says other (given_of list)) (sym parts) k.says)

-- ---- the parts of a form

setting_once : (greatest default : ℕ) (words : List Word) (n : ℕ) → IsSetting greatest default words n → length words ≤ 1
setting_once greatest default [] n h = omega arith
setting_once greatest default (word ∷ []) n h = omega arith
setting_once greatest default (word ∷ again ∷ words) n h = absurd h

once_at_most : (P : Word → Type 0) (words : List Word) → IsOnce P words → length words ≤ 1
once_at_most P [] h = omega arith
once_at_most P (word ∷ []) h = omega arith
once_at_most P (word ∷ again ∷ words) h = absurd h

none_at_most : (words : List Word) → words ≡ [] → length words ≤ 1
none_at_most words e = omega (arith, ap length e)

shards_once : (given : Given) (s w : ℕ) → HasSettings given s w → length given.shards ≤ 1
shards_once given s w h = setting_once MOST_SHARDS SHARDS given.shards s h.shards_in

workers_once : (given : Given) (s w : ℕ) → HasSettings given s w → length given.workers ≤ 1
workers_once given s w h = setting_once MOST_WORKERS WORKERS given.workers w h.workers_in

-- a command has each option once at most
says_once :
    (command : Command) (parts : List Part) → Says command (given_of parts) → (option : Option OptionName)
    → length (values_of option parts) ≤ 1
says_once (Count lots s w) parts h (Some Lots) = once_at_most (λ word. IsLotList word lots) (values_of (Some Lots) parts) h.1
says_once (Count lots s w) parts h (Some Shards) = shards_once (given_of parts) s w h.0
says_once (Count lots s w) parts h (Some Workers) = workers_once (given_of parts) s w h.0
says_once (Count lots s w) parts h None = none_at_most (values_of None parts) h.2
says_once (Day s w) parts h (Some Lots) = none_at_most (values_of (Some Lots) parts) h.1
says_once (Day s w) parts h (Some Shards) = shards_once (given_of parts) s w h.0
says_once (Day s w) parts h (Some Workers) = workers_once (given_of parts) s w h.0
says_once (Day s w) parts h None = none_at_most (values_of None parts) h.2
says_once (Trial n s w) parts h (Some Lots) = none_at_most (values_of (Some Lots) parts) h.1
says_once (Trial n s w) parts h (Some Shards) = shards_once (given_of parts) s w h.0
says_once (Trial n s w) parts h (Some Workers) = workers_once (given_of parts) s w h.0
says_once (Trial n s w) parts h None = once_at_most (IsTrialNumber n) (values_of None parts) h.2

-- after the first word of a form stand its parts
pub form_parts :
    (first : Word) (behind : List Word) (command : Command) (form : HasForm (first ∷ behind) command)
    → AreParts behind form.parts
form_parts first behind command form = record {
  spelled = let e = form.spelled in cc;
  values = form.values;
  once = says_once command form.parts form.says;
}

pub form_first :
    (first : Word) (behind : List Word) (command : Command) → HasForm (first ∷ behind) command
    → first ≡ first_word command
form_first first behind command form = let e = form.spelled in cc

pub form_from_parts :
    (first : Word) (behind : List Word) (parts : List Part) (command : Command) → AreParts behind parts
    → first ≡ first_word command → Says command (given_of parts)
    → HasForm (first ∷ behind) command
form_from_parts first behind parts command are same says = record {
  parts = parts;
  spelled = λ i. same i ∷ are.spelled i;
  values = are.values;
  says = says;
}
