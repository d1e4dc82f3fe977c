-- What words say is one thing, and a first word that has no row says nothing.
use Rattle.std.proofs.Common.{◌≡◌, ℕ, List, [], ◌∷◌, ◌++◌, refl, sym, ap, ◌∙◌, subst, Option, Some, None, unwrap_or, inl, inr, true, false}
use Rattle.std.proofs.lemmas.Bool.{false≢true}
use Rattle.std.specs.Prelude.{is_some}
use Rattle.tdb_dump.specs.Word.{IsWord}
use Rattle.tdb_dump.proofs.GrammarLemmas.{one_word}
use Rattle.tdb_commands.specs.declared.command.Command.{Command}
use Rattle.tdb_commands.specs.declared.play.Play.{Play}
use Rattle.tdb_script.specs.Lines.{words_of}
use Rattle.tdb_script.specs.Number.{IsNumber}
use Rattle.tdb_script.specs.Rows.{row_of, bare_commands, key_commands, value_commands, opener_plays, command_plays}
use Rattle.tdb_script.specs.Script.{IsCommand, IsPlay, IsOpenerPlay, is_skipped, Says, SaysNothing, LinesSay, with_said}

-- one value stands in a `Some`, and none in a `None`
pub same_some : {A : Type 0} (a b : A) (o : Option A) → o ≡ Some a → o ≡ Some b → a ≡ b
same_some a b o p q = ap (λ x. unwrap_or x a) (sym p ∙ q)

no_some : {A : Type 0} (a : A) (o : Option A) → o ≡ None → o ≡ Some a → ⊥
no_some a o p q = false≢true (ap is_some (sym p ∙ q))

pub bare_none : (name : List ℕ) → row_of bare_commands name ≡ None → (command : Command) → IsCommand (name ∷ []) command → ⊥
bare_none name none command p = no_some command (row_of bare_commands name) none p

pub key_none : (name word key : List ℕ) → IsWord word key → row_of (key_commands key) name ≡ None → (command : Command) → IsCommand (name ∷ word ∷ []) command → ⊥
key_none name word key w none command p =
    no_some command (row_of (key_commands key) name) none (subst (λ k. row_of (key_commands k) name ≡ Some command) (one_word word p.0 key p.1 w) p.2)

pub value_none : (name word more key value : List ℕ) → IsWord word key → IsWord more value → row_of (value_commands key value) name ≡ None → (command : Command) → IsCommand (name ∷ word ∷ more ∷ []) command → ⊥
value_none name word more key value w v none command p =
    no_some command (row_of (value_commands key value) name) none
    (subst (λ x. row_of (value_commands key x) name ≡ Some command) (one_word more p.1 value p.3 v)
    (subst (λ k. row_of (value_commands k p.1) name ≡ Some command) (one_word word p.0 key p.2 w) p.4))

-- words are one command
pub one_command : (words : List (List ℕ)) (command other : Command) → IsCommand words command → IsCommand words other → command ≡ other
one_command [] command other p q = absurd p
one_command (name ∷ []) command other p q = same_some command other (row_of bare_commands name) p q
one_command (name ∷ word ∷ []) command other p q =
    same_some command other (row_of (key_commands p.0) name) p.2 (subst (λ k. row_of (key_commands k) name ≡ Some other) (one_word word q.0 p.0 q.1 p.1) q.2)
one_command (name ∷ word ∷ more ∷ []) command other p q =
    same_some command other (row_of (value_commands p.0 p.1) name) p.4
    (subst (λ v. row_of (value_commands p.0 v) name ≡ Some other) (one_word more q.1 p.1 q.3 p.3)
    (subst (λ k. row_of (value_commands k q.1) name ≡ Some other) (one_word word q.0 p.0 q.2 p.2) q.4))
one_command (name ∷ word ∷ more ∷ last ∷ words) command other p q = absurd p

-- four words are no command
pub too_many : (words : List (List ℕ)) (name word more last : List ℕ) (rest : List (List ℕ)) → words ≡ name ∷ word ∷ more ∷ last ∷ rest → (command : Command) → IsCommand words command → ⊥
too_many words name word more last rest e command p = subst (λ ws. IsCommand ws command) e p

pub alone_none : (name : List ℕ) (who : ℕ) → row_of (opener_plays who) name ≡ None → (play : Play) → IsOpenerPlay name who [] play → ⊥
alone_none name who none play p = elim p [ inl x ↦ no_some play (row_of (opener_plays who) name) none x.1 | inr x ↦ x.1 ]

-- more words are no play of an opener where they are no command
pub no_command : (name : List ℕ) (who : ℕ) (words : List (List ℕ)) → (words ≡ [] → ⊥) → ((command : Command) → IsCommand words command → ⊥) → (play : Play) → IsOpenerPlay name who words play → ⊥
no_command name who words some none play p = elim p [ inl x ↦ some x.0 | inr x ↦ none x.0 x.1 ]

-- nor where the first word has no row for a command
pub no_row : (name : List ℕ) (who : ℕ) (words : List (List ℕ)) (command : Command) → IsCommand words command → row_of (command_plays who command) name ≡ None → (play : Play) → IsOpenerPlay name who words play → ⊥
no_row name who words command is none play p = elim p [
  | inl x ↦ subst (λ ws. IsCommand ws command) x.0 is
  | inr x ↦ no_some play (row_of (command_plays who command) name) none (subst (λ c. row_of (command_plays who c) name ≡ Some play) (one_command words x.0 command x.1 is) x.2)
]

-- nor where the opener's number makes none
pub no_opener_play : (name number : List ℕ) (words : List (List ℕ)) (who : ℕ) → IsNumber number who → ((play : Play) → IsOpenerPlay name who words play → ⊥) → (play : Play) → IsPlay (name ∷ number ∷ words) play → ⊥
no_opener_play name number words who is none play p = none play (subst (λ w. IsOpenerPlay name w words play) (p.1.value ∙ sym is.value) p.2)

pub no_number : (name number : List ℕ) (words : List (List ℕ)) → ((who : ℕ) → IsNumber number who → ⊥) → (play : Play) → IsPlay (name ∷ number ∷ words) play → ⊥
no_number name number words none play p = none p.0 p.1

-- words that aren't skipped and are no play say nothing
pub says_nothing : (words : List (List ℕ)) (name : List ℕ) (rest : List (List ℕ)) → words ≡ name ∷ rest → is_skipped (name ∷ rest) ≡ false → ((play : Play) → IsPlay (name ∷ rest) play → ⊥) → SaysNothing words
says_nothing words name rest e kept none None says = false≢true (sym kept ∙ subst (λ ws. is_skipped ws ≡ true) e says)
says_nothing words name rest e kept none (Some play) says = none play (subst (λ ws. IsPlay ws play) e says.1)

pub says_play : (words : List (List ℕ)) (name : List ℕ) (rest : List (List ℕ)) (play : Play) → words ≡ name ∷ rest → is_skipped (name ∷ rest) ≡ false → IsPlay (name ∷ rest) play → Says words (Some play)
says_play words name rest play e kept p = (subst (λ ws. is_skipped ws ≡ false) (sym e) kept, subst (λ ws. IsPlay ws play) (sym e) p)

-- one more line says what it says behind the others
pub say_more : (lines : List (List ℕ)) (line : List ℕ) (plays : List Play) (said : Option Play) → LinesSay lines plays → Says (words_of line) said → LinesSay (lines ++ line ∷ []) (plays ++ with_said said [])
say_more [] line plays said p s = (said, [], s, refl, ap (λ l. l ++ with_said said []) p)
say_more (first ∷ lines) line plays said p s =
    (p.0, p.1 ++ with_said said [], p.2, say_more lines line p.1 said p.3 s, ap (λ l. l ++ with_said said []) p.4 ∙ behind p.0 p.1 (with_said said []))
  where
    behind : (front : Option Play) (rest more : List Play) → with_said front rest ++ more ≡ with_said front (rest ++ more)
    behind None rest more = refl
    behind (Some play) rest more = refl
