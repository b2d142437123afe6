use Rattle.std.proofs.Common.{◌++◌, ◌∷◌, sym, ◌∙◌}
use Rattle.day_lines.specs.EntryText.{call_text, reply_text}
use Rattle.day_text.proofs.EntryLines.{caller_once, call_once, behind_line_number}
use Rattle.day_text.proofs.entry_reader.read_entry.Goals as goal

pub returns-in_default-read_caller : goal.returns-in_default-read_caller
returns-in_default-read_caller c e said is =
    c.in_default-read_caller.ensures e.caller (call_text e.call ++ 32 ∷ reply_text e.reply) said.caller
    (behind_line_number c.args.n e _ _ c.in-Some.ensures is)

pub returns-in_default-read_call : goal.returns-in_default-read_call
returns-in_default-read_call c e said is =
    let read = c.in-Some-read_caller.ensures in
    let caller =
    caller_once _ e.caller _ (call_text e.call ++ 32 ∷ reply_text e.reply) read.0 said.caller
    (sym read.1 ∙ behind_line_number c.args.n e _ _ c.in-Some.ensures is) in
    c.in_default-read_call.ensures e.call (reply_text e.reply) said.call caller.1

pub returns-in-None : goal.returns-in-None
returns-in-None c e said is =
    let read = c.in-Some-read_caller.ensures in
    let called = c.in-Some-read_call.ensures in
    let caller =
    caller_once _ e.caller _ (call_text e.call ++ 32 ∷ reply_text e.reply) read.0 said.caller
    (sym read.1 ∙ behind_line_number c.args.n e _ _ c.in-Some.ensures is) in
    let call =
    call_once _ e.call _ (reply_text e.reply) called.0 said.call (sym called.1 ∙ caller.1) in
    c.in-None.ensures e.reply said.reply call.1
