-- The words at virtual addresses, as they are read one after another.
use Rattle.std.proofs.Common.{◌≡◌, ◌∙◌, ℕ, zero, suc, ◌+◌, ◌*◌, ◌-◌, ◌<◌, List, [], ◌∷◌, ◌++◌, Result, Ok, Err, add-one, ap, arith, length, refl, sym}
use Rattle.pdp_kt11.specs.declared.mode.Mode.{Mode}
use Rattle.pdp_kt11.specs.declared.place.Abort.{Abort}
use Rattle.pdp_unibus.specs.Handbook.BusWorld.{BusWorld}
use Rattle.pdp_unibus.specs.Handbook.Cycle.{Slave, Core, Device, Nobody, read_from, slave_at}
use Rattle.pdp_replay.specs.Ask.VirtualReads.{AgreesWithCycle, VirtualWordsAreRead, core_word_at_place, core_word_of, place_of_read, virtual_word, virtual_words, with_next_word}
use Rattle.pdp_replay.specs.declared.ask.virtual_words.Cause.{Cause}
use Rattle.pdp_replay.specs.declared.ask.virtual_words.Unreadable.{Unreadable}

-- by who answers the physical address
agrees_by : (slave : Slave) (physical : ℕ) (w : BusWorld) → slave_at (length w.core) physical ≡ slave
    → AgreesWithCycle (core_word_of slave w) (Ok physical) w
agrees_by (Core number) physical w is = ap (λ s. (read_from physical s w).value) is
agrees_by (Device register) physical w is = (register, is)
agrees_by Nobody physical w is = ap (λ s. (read_from physical s w).value) is

agrees_at : (place : Result ℕ Abort) (w : BusWorld) → AgreesWithCycle (core_word_at_place place w) place w
agrees_at (Ok physical) w = agrees_by (slave_at (length w.core) physical) physical w refl
agrees_at (Err abort) w = refl

pub virtual_words_read : VirtualWordsAreRead
unfolding virtual_word
virtual_words_read mode address w = agrees_at (place_of_read mode address w) w

pub no_words : (mode : Mode) (address : ℕ) (w : BusWorld) → virtual_words mode address 0 w ≡ Ok []
unfolding virtual_words
no_words mode address w = refl

next_word : (mode : Mode) (address n : ℕ) (w : BusWorld)
    → virtual_words mode address (n + 1) w
    ≡ with_next_word (virtual_words mode address n w) (address + 2 * n) (virtual_word mode (address + 2 * n) w)
unfolding virtual_words
next_word mode address n w = rw add-one refl

-- one word more
pub one_more_word : (mode : Mode) (address n here : ℕ) (w : BusWorld) (words : List ℕ) (word : ℕ) → here ≡ address + 2 * n
    → virtual_words mode address n w ≡ Ok words → Ok word ≡ virtual_word mode here w
    → virtual_words mode address (n + 1) w ≡ Ok (words ++ word ∷ [])
one_more_word mode address n here w words word at before is =
    next_word mode address n w
    ∙ ap (λ read. with_next_word read (address + 2 * n) (virtual_word mode (address + 2 * n) w)) before
    ∙ ap (with_next_word (Ok words) (address + 2 * n)) (ap (λ a. virtual_word mode a w) (sym at) ∙ sym is)

-- more words leave the first that can't be read the first
stays_unreadable : (mode : Mode) (address n k : ℕ) (w : BusWorld) (unreadable : Unreadable) → virtual_words mode address n w ≡ Err unreadable
    → virtual_words mode address (n + k) w ≡ Err unreadable
stays_unreadable mode address n zero w unreadable is =
    let same : n + 0 ≡ n = omega arith in
    ap (λ m. virtual_words mode address m w) same ∙ is
stays_unreadable mode address n (suc k) w unreadable is =
    let same : n + suc k ≡ n + k + 1 = omega arith in
    ap (λ m. virtual_words mode address m w) same
    ∙ next_word mode address (n + k) w
    ∙ ap (λ read. with_next_word read (address + 2 * (n + k)) (virtual_word mode (address + 2 * (n + k)) w))
    (stays_unreadable mode address n k w unreadable is)

-- a word that can't be read is the answer
pub first_unreadable : (mode : Mode) (address n count here : ℕ) (w : BusWorld) (words : List ℕ) (cause : Cause) → here ≡ address + 2 * n → n < count
    → virtual_words mode address n w ≡ Ok words → Err cause ≡ virtual_word mode here w
    → Err (record { address = here; cause = cause }) ≡ virtual_words mode address count w
first_unreadable mode address n count here w words cause at below before is =
    let k : ℕ = count - (n + 1) in
    let end : n + 1 + k ≡ count = omega (arith, below) in
    let step : virtual_words mode address (n + 1) w ≡ Err (record { address = here; cause = cause }) =
    next_word mode address n w
    ∙ ap (λ read. with_next_word read (address + 2 * n) (virtual_word mode (address + 2 * n) w)) before
    ∙ ap (λ a. with_next_word (Ok words) a (virtual_word mode a w)) (sym at)
    ∙ ap (with_next_word (Ok words) here) (sym is) in
    sym (ap (λ m. virtual_words mode address m w) (sym end) ∙ stays_unreadable mode address (n + 1) k w (record { address = here; cause = cause }) step)
