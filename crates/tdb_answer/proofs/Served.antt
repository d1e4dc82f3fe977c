-- The plays of a script may be taken: each command of its tables has a key and a value no longer than the script.
use Rattle.std.proofs.Common.{ℕ, ◌<◌, ◌≤◌, List, [], ◌∷◌, length, sym, subst, Option, Some, None, inl, inr, arith}
use Rattle.std.specs.Prelude.{◌^◌}
use Rattle.std.proofs.lemmas.List.Elements.{All-nil, All-cons}
use Rattle.tdb_dump.specs.Word.{IsWord}
use Rattle.tdb_commands.specs.declared.command.Command.{Command}
use Rattle.tdb_commands.specs.declared.play.Play.{Play}
use Rattle.tdb_script.specs.Lines.{lines_of, words_of}
use Rattle.tdb_script.specs.Rows.{bare_commands, key_commands, value_commands, bare_plays, opener_plays, command_plays}
use Rattle.tdb_script.specs.Script.{IsCommand, IsOpenerPlay, IsPlay, Says, LinesSay, with_said, Script}
use Rattle.tdb_script.proofs.EachRow.{of_row}
use Rattle.tdb_script.proofs.PartLemmas.{NoLonger, lines_no_longer, words_no_longer}
use Rattle.tdb_commands.specs.Short.{IsShortCommand}
use Rattle.tdb_world.specs.Courses.Playable.{IsPlayable, ArePlayable}
use Rattle.tdb_cmdline.proofs.ShortWords.{word_short}

module _ (n : ℕ) (few : n < 2 ^ 32) where
  short : (word bytes : List ℕ) → length word ≤ n → IsWord word bytes → length bytes < 2 ^ 32
  short word bytes within is = omega (arith, few, within, word_short word bytes is)

  command_short : (words : List (List ℕ)) (command : Command) → NoLonger n words → IsCommand words command → IsShortCommand command
  command_short [] command l p = absurd p
  command_short (name ∷ []) command l p =
      of_row IsShortCommand bare_commands name command (tt, (tt, (tt, (tt, (tt, (tt, (tt, (tt, (tt, (tt, (tt, (tt, (tt, (tt, tt)))))))))))))) p
  command_short (name ∷ word ∷ []) command l p =
      let k = short word p.0 l.1.0 p.1 in
      of_row IsShortCommand (key_commands p.0) name command (k, (k, (k, (k, (k, (k, tt)))))) p.2
  command_short (name ∷ word ∷ more ∷ []) command l p =
      let k = short word p.0 l.1.0 p.2 in
      let v = short more p.1 l.1.1.0 p.3 in
      of_row IsShortCommand (value_commands p.0 p.1) name command ((k, v), ((k, v), ((k, v), ((k, v), tt)))) p.4
  command_short (name ∷ word ∷ more ∷ other ∷ words) command l p = absurd p

  opener_playable : (name : List ℕ) (who : ℕ) (words : List (List ℕ)) (play : Play) → 1 ≤ who → NoLonger n words → IsOpenerPlay name who words play → IsPlayable play
  opener_playable name who words play one l (inl p) = of_row IsPlayable (opener_plays who) name play (one, (one, (one, tt))) p.1
  opener_playable name who words play one l (inr p) =
      let s = command_short words p.0 l p.1 in
      of_row IsPlayable (command_plays who p.0) name play ((one, s), ((one, s), tt)) p.2

  play_playable : (words : List (List ℕ)) (play : Play) → NoLonger n words → IsPlay words play → IsPlayable play
  play_playable [] play l p = absurd p
  play_playable (name ∷ []) play l p = of_row IsPlayable bare_plays name play (tt, (tt, tt)) p
  play_playable (name ∷ number ∷ words) play l p = opener_playable name p.0 words play p.1.least l.1.1 p.2

  said_playable : (words : List (List ℕ)) (said : Option Play) (plays : List Play) → NoLonger n words → Says words said → ArePlayable plays → ArePlayable (with_said said plays)
  said_playable words None plays l says all = all
  said_playable words (Some play) plays l says all = All-cons IsPlayable play plays (play_playable words play l says.1) all

  lines_playable : (lines : List (List ℕ)) (plays : List Play) → NoLonger n lines → LinesSay lines plays → ArePlayable plays
  lines_playable [] plays l p = subst ArePlayable (sym p) (All-nil IsPlayable)
  lines_playable (line ∷ lines) plays l p =
      subst ArePlayable (sym p.4) (said_playable (words_of line) p.0 p.1 (words_no_longer n line l.0) p.2 (lines_playable lines p.1 l.1 p.3))

pub script_playable : (text : List ℕ) (plays : List Play) → Script text plays → ArePlayable plays
script_playable text plays p = lines_playable (length text) (let fits = p.fits in omega (arith, fits)) (lines_of text) plays (lines_no_longer text) p.says
