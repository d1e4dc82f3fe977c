-- How a command ended, by its lines.
use Rattle.std.proofs.Common.{◌≡◌, ◌≢◌, ℕ, ◌+◌, ◌<◌, ◌≤◌, List, [], ◌∷◌, length, drop, slice_index_or, Option, None, Some, Ok, Err, refl, sym, ◌∙◌, ap}
use Rattle.std.specs.Prelude.{IfErr}
use Rattle.std.proofs.lemmas.List.{drop_all, drop_more}
use Rattle.tdb_locks.specs.declared.turn.Reply.{Reply}
use Rattle.tdb_locks.specs.declared.turn.Turn.{Turn}
use Rattle.tdb_law.specs.Commands.{Reply as LawReply}
use Rattle.tdb_commands.specs.InLaw.{law_lines, law_reply}
use Rattle.tdb_commands.specs.declared.line.Line.{Line}
use Rattle.tdb_merge.specs.Endings.{Ending, ending_of, ending_or, line_ending, reply_ending}
use Rattle.tdb_merge.specs.declared.fault.MergeFault.TheVariants.{Full, Starved, Read, Memory}
use Rattle.tdb_merge.proofs.Running.{reply_in}

-- the lines from a place on, where the one there tells nothing, or tells an ending, or where there is none
module _ (lines : List Line) (i : ℕ) where
  pub ending_here : (line : Line) → i < length lines → line ≡ slice_index_or lines i line → ending_of (drop i lines) ≡ ending_or (line_ending line) (ending_of (drop (i + 1) lines))
  ending_here line inside is = ap ending_of (drop_more lines i line inside) ∙ ap (λ l. ending_or (line_ending l) (ending_of (drop (i + 1) lines))) (sym is)

  pub ending_passed : (line : Line) → i < length lines → line ≡ slice_index_or lines i line → line_ending line ≡ None → ending_of (drop i lines) ≡ ending_of (drop (i + 1) lines)
  ending_passed line inside is none = ending_here line inside is ∙ ap (λ o. ending_or o (ending_of (drop (i + 1) lines))) none

  pub ending_found : (line : Line) (ending : Ending) → i < length lines → line ≡ slice_index_or lines i line → line_ending line ≡ Some ending → ending_of (drop i lines) ≡ ending
  ending_found line ending inside is some = ending_here line inside is ∙ ap (λ o. ending_or o (ending_of (drop (i + 1) lines))) some

  pub ending_none : length lines ≤ i → ending_of (drop i lines) ≡ Err Memory
  ending_none past = ap ending_of (drop_all i lines past)

-- What an ending says of the first reply of lines, in the words of the law.
abbrev pub SaysReply : Ending → Option LawReply → Type 0
SaysReply (Ok v) reply = reply ≡ Some LawReply.Done
SaysReply (Err (Full len need)) reply = reply ≡ Some (LawReply.Full len need)
SaysReply (Err Starved) reply = reply ≡ Some LawReply.Memory
SaysReply (Err Memory) reply = Unit {0}
SaysReply (Err fault) reply = ⊥

reply_says : (reply : Reply) → SaysReply (reply_ending reply) (Some (law_reply reply))
reply_says Reply.Ok = refl
reply_says (Reply.Full len need) = refl
reply_says Reply.Memory = refl
reply_says reply = tt

pub ending_says : (lines : List Line) → SaysReply (ending_of lines) (reply_in (law_lines lines))
ending_says [] = tt
ending_says (Line.Took who command Turn.Step ∷ lines) = ending_says lines
ending_says (Line.Took who command (Turn.Blocked owner byte) ∷ lines) = ending_says lines
ending_says (Line.Took who command (Turn.Done reply) ∷ lines) = reply_says reply
ending_says (line ∷ lines) = ending_says lines

-- so it doesn't say that the pairs weren't read
unread : (ending : Ending) (reply : Option LawReply) → SaysReply ending reply → IfErr ending (λ e. e ≢ Read)
unread (Ok v) reply says = tt
unread (Err (Full len need)) reply says = λ is. cc is
unread (Err Starved) reply says = λ is. cc is
unread (Err Memory) reply says = λ is. cc is
unread (Err fault) reply says = absurd says

pub ending_unread : (lines : List Line) → IfErr (ending_of lines) (λ e. e ≢ Read)
ending_unread lines = unread (ending_of lines) (reply_in (law_lines lines)) (ending_says lines)
