-- What a run answered makes it a run of its tool: where it is done, what it refuses, and that it has no other refusal.
use Rattle.std.proofs.Common.{◌≡◌, ◌⊎◌, ℕ, List, refl, sym, ap, subst}
use Rattle.std.proofs.Common.{inl, inr}
use Rattle.std.specs.Prelude.{Option}
use Rattle.byte_edge.specs.Faults.{Rose}
use Rattle.meek_words.specs.Numerals.{Word}
use Rattle.tool_edge.specs.declared.end.End.{End}
use Rattle.tool_edge.specs.declared.end.End.TheVariants.{Done, SourceFault, BadWords, BadInput, SinkFault, NoMemory}
use Rattle.tool_edge.specs.Streams.{Reading, Writing, NoReadFailed}
use Rattle.tool_edge.specs.Finishing.{Finishes}
use Rattle.tool_edge.specs.Opening.{MayBeInput, IsInput, IsWithin}
use Rattle.tool_edge.specs.Tool.{Tool, AsksForInput, IsRefused, IsOwedFor, IsOwedAt, IsOwed, IsAnswered}
use Rattle.tool_edge.specs.Tool.{IsReadFor, IsAcceptedRun, IsRefusedInput, IsRefusedRun, IsOnlyRefusal, IsRun}
use Rattle.tool_edge.specs.Tool.{IsSound}
use Rattle.tool_edge.proofs.Inputs.{same_input, not_within, long_once}

module _ {A H F : Type 0} (tool : Tool A H F) where
  -- ---- what is refused and what is owed

  -- what is refused is so with one fault
  refused_once :
      (asked : A) (input : List ℕ) (fault other : F) → IsSound tool → IsRefused tool asked input fault
      → IsRefused tool asked input other → fault ≡ other
  refused_once asked input fault other sound (inl long) (inl again) =
      long_once tool.refusals (tool.limit asked) input fault other long again
  refused_once asked input fault other sound (inl long) (inr (short, again)) =
      absurd (not_within tool.refusals (tool.limit asked) input fault short long)
  refused_once asked input fault other sound (inr (short, refused)) (inl again) =
      absurd (not_within tool.refusals (tool.limit asked) input other short again)
  refused_once asked input fault other sound (inr (short, refused)) (inr (within, again)) =
      sound.once asked input fault other refused again

  -- what is accepted is not refused
  not_refused :
      (asked : A) (input : List ℕ) (fault : F) → IsSound tool → IsWithin (tool.limit asked) input
      → tool.Accepts asked input → IsRefused tool asked input fault → ⊥
  not_refused asked input fault sound short accepted (inl long) =
      not_within tool.refusals (tool.limit asked) input fault short long
  not_refused asked input fault sound short accepted (inr (within, refused)) =
      sound.either asked input fault accepted refused

  -- What is owed for words is owed for what they ask, and for the input that was told.
  owed_known :
      (words : List Word) (asked : A) (left : Option (List ℕ)) (input : List ℕ) (history : H) (end : End F) (bytes : List ℕ)
      → IsSound tool → tool.Takes words asked → IsInput (tool.limit asked) left input
      → ((other : A) × tool.Takes words other × IsOwedAt tool other left history end bytes)
      → IsOwedFor tool asked input history end bytes
  owed_known words asked left input history end bytes sound taken told (other, again, owed) =
      let here : IsOwedAt tool asked left history end bytes =
      subst (λ (a : A). IsOwedAt tool a left history end bytes) (sound.one words other asked again taken) owed in
      subst (λ (i : List ℕ). IsOwedFor tool asked i history end bytes)
      (same_input (tool.limit asked) left input here.0 told here.1) here.2

  -- What is owed for the input is owed for the words that asked for it.
  pub owed_for_words :
      (words : List Word) (left : Option (List ℕ)) (input : List ℕ) (asked : A) (history : H) (end : End F) (bytes : List ℕ)
      → tool.Takes words asked → MayBeInput (tool.limit asked) left input → IsOwedFor tool asked input history end bytes
      → IsOwed tool words left history end bytes
  owed_for_words words left input asked history Done bytes taken is owed = (asked, taken, (input, is, owed))
  owed_for_words words left input asked history (BadInput fault) bytes taken is owed = (asked, taken, (input, is, owed))
  owed_for_words words left input asked history end bytes taken is owed = absurd owed

  -- What is owed was written, or a front of it.
  pub answered :
      (words : List Word) (source : Reading) (sink : Writing) (due : End F) (history : H) (bytes : List ℕ) (end : End F)
      → NoReadFailed source → IsOwed tool words source.left history due bytes → Finishes due bytes end sink
      → IsAnswered tool words source sink end history
  answered words source sink Done history bytes end calm is (inl (same, none, took)) =
      subst (λ (e : End F). IsAnswered tool words source sink e history) (sym same) (calm, (none, (bytes, is, took)))
  answered words source sink BadWords history bytes end calm is (inl (same, none, took)) =
      subst (λ (e : End F). IsAnswered tool words source sink e history) (sym same) (calm, (none, (bytes, is, took)))
  answered words source sink (BadInput fault) history bytes end calm is (inl (same, none, took)) =
      subst (λ (e : End F). IsAnswered tool words source sink e history) (sym same) (calm, (none, (bytes, is, took)))
  answered words source sink SourceFault history bytes end calm is (inl done) = absurd is
  answered words source sink SinkFault history bytes end calm is (inl done) = absurd is
  answered words source sink NoMemory history bytes end calm is (inl done) = absurd is
  answered words source sink due history bytes end calm is (inr (same, rose, front)) =
      subst (λ (e : End F). IsAnswered tool words source sink e history) (sym same) (calm, (rose, (due, bytes, is, front)))

  -- ---- completeness

  -- An accepted run in which nothing failed is done, or wants memory.
  complete :
      (words : List Word) (source : Reading) (sink : Writing) (end : End F) (history : H) → IsSound tool
      → IsAnswered tool words source sink end history → IsAcceptedRun tool words source sink
      → (end ≡ Done) ⊎ (end ≡ NoMemory)
  complete words source sink Done history sound is run = inl refl
  complete words source sink NoMemory history sound is run = inr refl
  complete words source sink SourceFault history sound is run =
      let same = sound.one words is.0.0 run.asked is.0.1 run.taken in
      absurd (run.no_read_failed (subst (λ (a : A). AsksForInput tool a) same is.0.2) is.2)
  complete words source sink SinkFault history sound is run = absurd (run.no_write_failed is.1.0)
  complete words source sink BadWords history sound is run = absurd (is.1.1.1.0 run.asked run.taken)
  complete words source sink (BadInput fault) history sound is run =
      let known =
      owed_known words run.asked source.left run.input history (BadInput fault) is.1.1.0 sound run.taken
      run.told is.1.1.1 in
      absurd (not_refused run.asked run.input fault sound run.short run.accepted known.0)

  -- Words that are not taken are refused, where nothing failed.
  refuses_words :
      (words : List Word) (source : Reading) (sink : Writing) (end : End F) (history : H)
      → IsAnswered tool words source sink end history → ((asked : A) → ¬ tool.Takes words asked)
      → ¬ Rose sink.faults sink.faults_then → (end ≡ BadWords) ⊎ (end ≡ NoMemory)
  refuses_words words source sink Done history is none calm = absurd (none is.1.1.1.0 is.1.1.1.1)
  refuses_words words source sink NoMemory history is none calm = inr refl
  refuses_words words source sink SourceFault history is none calm = absurd (none is.0.0 is.0.1)
  refuses_words words source sink SinkFault history is none calm = absurd (calm is.1.0)
  refuses_words words source sink BadWords history is none calm = inl refl
  refuses_words words source sink (BadInput fault) history is none calm = absurd (none is.1.1.1.0 is.1.1.1.1)

  -- An input that is refused with a fault is refused with it, where nothing failed.
  refuses_input :
      (words : List Word) (source : Reading) (sink : Writing) (end : End F) (history : H) (fault : F) → IsSound tool
      → IsAnswered tool words source sink end history → IsRefusedInput tool words source fault
      → ¬ Rose sink.faults sink.faults_then → (end ≡ BadInput fault) ⊎ (end ≡ NoMemory)
  refuses_input words source sink Done history fault sound is run calm =
      let known = owed_known words run.asked source.left run.input history Done is.1.1.0 sound run.taken run.told is.1.1.1 in
      let accepted = sound.owed run.asked run.input history is.1.1.0 known.1 in
      absurd (not_refused run.asked run.input fault sound known.0 accepted run.refused)
  refuses_input words source sink NoMemory history fault sound is run calm = inr refl
  refuses_input words source sink SourceFault history fault sound is run calm =
      let same = sound.one words is.0.0 run.asked is.0.1 run.taken in
      absurd (run.no_read_failed (subst (λ (a : A). AsksForInput tool a) same is.0.2) is.2)
  refuses_input words source sink SinkFault history fault sound is run calm = absurd (calm is.1.0)
  refuses_input words source sink BadWords history fault sound is run calm = absurd (is.1.1.1.0 run.asked run.taken)
  refuses_input words source sink (BadInput other) history fault sound is run calm =
      let known =
      owed_known words run.asked source.left run.input history (BadInput other) is.1.1.0 sound run.taken
      run.told is.1.1.1 in
      inl (ap BadInput (refused_once run.asked run.input other fault sound known.0 run.refused))

  refuses :
      (words : List Word) (source : Reading) (sink : Writing) (end : End F) (history : H) (due : End F) → IsSound tool
      → IsAnswered tool words source sink end history → IsRefusedRun tool words source sink due
      → (end ≡ due) ⊎ (end ≡ NoMemory)
  refuses words source sink end history BadWords sound is run = refuses_words words source sink end history is run.0 run.1
  refuses words source sink end history (BadInput fault) sound is run =
      refuses_input words source sink end history fault sound is run.0 run.1
  refuses words source sink end history due sound is run = absurd run

  -- What an input is refused for is its only fault.
  only :
      (words : List Word) (source : Reading) (sink : Writing) (history : H) (fault : F) → IsSound tool
      → IsAnswered tool words source sink (BadInput fault) history → IsOnlyRefusal tool words source.left fault
  only words source sink history fault sound is =
      record {
        no_other = λ asked input other taken told refused.
            let known =
            owed_known words asked source.left input history (BadInput fault) is.1.1.0 sound taken told
            is.1.1.1 in
            refused_once asked input other fault sound refused known.0;
        not_accepted = λ asked input taken told short accepted.
            let known =
            owed_known words asked source.left input history (BadInput fault) is.1.1.0 sound taken told
            is.1.1.1 in
            not_refused asked input fault sound short accepted known.0;
      }

  pub run_of :
      (words : List Word) (source : Reading) (sink : Writing) (end : End F) (history : H) → IsSound tool
      → IsAnswered tool words source sink end history → IsReadFor tool words end source
      → IsRun tool words source sink end history
  run_of words source sink end history sound answer read =
      record {
        answer = answer;
        read = read;
        complete = complete words source sink end history sound answer;
        refuses = λ due. refuses words source sink end history due sound answer;
        only = λ fault same. only words source sink history fault sound
            (subst (λ (e : End F). IsAnswered tool words source sink e history) same answer);
      }
