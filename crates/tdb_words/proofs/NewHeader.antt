-- The header of a new file reads back as what it was made of.
use Rattle.std.proofs.Common.{◌≡◌, ℕ, ◌<◌, false, List, Some, None, ap, ◌∙◌, arith, refl, ◌^◌}
use Rattle.std.proofs.lemmas.Bool.{eq-eqb, ne_eqb}
use Rattle.std.specs.Prelude.{unwrap_or, ◌==◌, ◌||◌, not}
use Rattle.tdb_words.specs.declared.word.Order.{Order}
use Rattle.tdb_words.specs.declared.word.Order.TheVariants.{Little, Big}
use Rattle.tdb_words.specs.declared.hash.HashKind.{HashKind}
use Rattle.tdb_words.specs.declared.hash.HashKind.TheVariants.{Old, Jenkins}
use Rattle.tdb_words.specs.declared.record.TheConstants.{USED}
use Rattle.tdb_words.specs.Word.{word, bytes_of_word}
use Rattle.tdb_words.specs.Hash.{h_of, h_old, h_jenkins, mix_of, final_of}
use Rattle.tdb_words.specs.Header.{food, order_named, hash_named, header_order, header_hash, header_fault, header_at, locks_of, new_header, jenkins_locks, mutex_locks}
use Rattle.tdb_words.proofs.Words.{word_made}

-- the words of a new header
module _ (size : ℕ) (h : HashKind) where
  abbrev img : Order → List ℕ
  img o = new_header size o h

  new_order : (o : Order) → order_named (img o) ≡ Some o
  unfolding word
  new_order Little = refl
  new_order Big = refl

  new_36 : (o : Order) → word o (img o) 36 ≡ word o (bytes_of_word o size) 0
  unfolding word
  new_36 Little = refl
  new_36 Big = refl

  new_40 : (o : Order) → word o (img o) 40 ≡ word o (bytes_of_word o (locks_of h)) 0
  unfolding word
  new_40 Little = refl
  new_40 Big = refl

  new_44 : (o : Order) → word o (img o) 44 ≡ 0
  unfolding word
  new_44 Little = refl
  new_44 Big = refl

  new_48 : (o : Order) → word o (img o) 48 ≡ 0
  unfolding word
  new_48 Little = refl
  new_48 Big = refl

  new_52 : (o : Order) → word o (img o) 52 ≡ word o (bytes_of_word o (h_of h food)) 0
  unfolding word
  new_52 Little = refl
  new_52 Big = refl

  new_56 : (o : Order) → word o (img o) 56 ≡ word o (bytes_of_word o (h_of h (bytes_of_word o USED))) 0
  unfolding word
  new_56 Little = refl
  new_56 Big = refl

  new_60 : (o : Order) → word o (img o) 60 ≡ 0
  unfolding word
  new_60 Little = refl
  new_60 Big = refl

-- the hashes of the text that a file begins with
old_food : h_old food ≡ 0xF67D9F0D
unfolding h_old
old_food = refl

jenkins_food : h_jenkins food ≡ 0xD7B694E5
unfolding h_jenkins mix_of final_of word
jenkins_food = refl

-- the hashes of the used magic
old_used : (o : Order) → h_old (bytes_of_word o USED) < 2 ^ 32
unfolding h_old
old_used Little = omega arith
old_used Big = omega arith

jenkins_used : (o : Order) → h_jenkins (bytes_of_word o USED) < 2 ^ 32
unfolding h_jenkins mix_of final_of word
jenkins_used Little = omega arith
jenkins_used Big = omega arith

food_fits : (h : HashKind) → h_of h food < 2 ^ 32
food_fits Old = rw old_food (omega arith)
food_fits Jenkins = rw jenkins_food (omega arith)

used_fits : (o : Order) (h : HashKind) → h_of h (bytes_of_word o USED) < 2 ^ 32
used_fits o Old = old_used o
used_fits o Jenkins = jenkins_used o

locks_fit : (h : HashKind) → locks_of h < 2 ^ 32
locks_fit Old = omega arith
locks_fit Jenkins = omega arith

-- the hash words of a new header name its hash
new_hash : (o : Order) (h : HashKind) → hash_named o (h_of h food) (h_of h (bytes_of_word o USED)) ≡ Some h
new_hash o Old = rw (old_food, eq-eqb (h_old (bytes_of_word o USED)) (h_old (bytes_of_word o USED)) refl) refl
new_hash o Jenkins = rw (jenkins_food, old_food, eq-eqb (h_jenkins (bytes_of_word o USED)) (h_jenkins (bytes_of_word o USED)) refl) refl

-- the locks word of a new header is known, and isn't that of a file with mutexes
locks_known : (h : HashKind) → not ((locks_of h == 0) || (locks_of h == jenkins_locks) || (locks_of h == mutex_locks)) ≡ false
locks_known Old = refl
locks_known Jenkins = refl

no_mutexes : (h : HashKind) → (locks_of h == mutex_locks) ≡ false
no_mutexes Old = refl
no_mutexes Jenkins = refl

-- the header of a new file
module _ (size : ℕ) (o : Order) (h : HashKind) (fits : size < 2 ^ 32) where
  abbrev made : List ℕ
  made = new_header size o h

  order_made : header_order made ≡ o
  unfolding header_order
  order_made = ap (λ x. unwrap_or x Little) (new_order size h o)

  named : hash_named o (word o made 52) (word o made 56) ≡ Some h
  named = (λ j. hash_named o ((new_52 size h o ∙ word_made o (h_of h food) (food_fits h)) j) ((new_56 size h o ∙ word_made o (h_of h (bytes_of_word o USED)) (used_fits o h)) j)) ∙ new_hash o h

  hash_made : header_hash made ≡ h
  unfolding header_hash
  hash_made = ap (λ p. unwrap_or (hash_named p (word p made 52) (word p made 56)) Old) order_made ∙ ap (λ x. unwrap_or x Old) named

  pub new_header_read : header_at made ≡ record { order = o; hash = h; hash_size = size; recovery_start = 0; sequence = 0 }
  new_header_read = λ j. record {
    order = order_made j;
    hash = hash_made j;
    hash_size = (ap (λ p. word p made 36) order_made ∙ new_36 size h o ∙ word_made o size fits) j;
    recovery_start = (ap (λ p. word p made 44) order_made ∙ new_44 size h o) j;
    sequence = (ap (λ p. word p made 48) order_made ∙ new_48 size h o) j;
  }

  pub new_header_sound : 0 < size → header_fault made ≡ None
  unfolding header_fault
  new_header_sound some =
      rw (order_made, new_order size h o, new_40 size h o ∙ word_made o (locks_of h) (locks_fit h), new_60 size h o, named, new_36 size h o ∙ word_made o size fits, ne_eqb size 0 (λ e. omega (arith, e, some)), locks_known h, no_mutexes h) refl
