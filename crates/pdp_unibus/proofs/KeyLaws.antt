-- The keyboard's registers as they are used, by what pdp_console proves of all its rows.
use Rattle.std.proofs.Common.{◌≡◌, false, List, [], ◌∷◌, refl, ap, ◌∙◌}
use Rattle.pdp_console.proofs.KeyLaws.{others_leave_the_key, reads_leave_done_clear, status_shows_done}
use Rattle.pdp_console.specs.declared.kl.KlRegister.TheVariants.{KeyboardBuffer}
use Rattle.pdp_unibus.specs.Handbook.Beginning.{at_start, after_key}
use Rattle.pdp_word.specs.Bits.{bit_of}
use Rattle.pdp_unibus.specs.KeyLaws.{KeysAreReadOnce, KeysWaitUntilRead, NeverReading}
use Rattle.pdp_io_page.specs.Laws.{RegisterUse, Reading, Writing, io_page_after_use, io_page_after_uses}
use Rattle.pdp_io_page.specs.Handbook.Register.{after_read, after_write, value_in}
use Rattle.pdp_io_page.specs.declared.io_page.IoPage.{IoPage}
use Rattle.pdp_io_page.specs.declared.register.Register.TheVariants.{Console}

-- no register sets done
stays_clear : (u : RegisterUse) (b : IoPage) → b.console.keyboard.ready_enable.ready ≡ false → (io_page_after_use u b).console.keyboard.ready_enable.ready ≡ false
unfolding after_read after_write
stays_clear (Reading (Console register)) b clear = reads_leave_done_clear register b.console clear
stays_clear (Reading other) b clear = clear
stays_clear (Writing (Console register) word turn) b clear = (others_leave_the_key register b.console word turn b.delays.printer).0 ∙ clear
stays_clear (Writing other word turn) b clear = clear

all_stay_clear : (uses : List RegisterUse) (b : IoPage) → b.console.keyboard.ready_enable.ready ≡ false → (io_page_after_uses uses b).console.keyboard.ready_enable.ready ≡ false
all_stay_clear [] b clear = clear
all_stay_clear (u ∷ uses) b clear = all_stay_clear uses (io_page_after_use u b) (stays_clear u b clear)

pub read_once : KeysAreReadOnce
unfolding value_in after_read
read_once b drives uses =
    status_shows_done (io_page_after_uses uses (after_read (Console KeyboardBuffer) b)).console
    ∙ ap bit_of (all_stay_clear uses (after_read (Console KeyboardBuffer) b) refl)

-- all but a read of the buffer leave done and the key
keeps : (uses : List RegisterUse) (b : IoPage) → NeverReading (Console KeyboardBuffer) uses
    → ((io_page_after_uses uses b).console.keyboard.ready_enable.ready ≡ b.console.keyboard.ready_enable.ready) × ((io_page_after_uses uses b).console.keyboard.key ≡ b.console.keyboard.key)
unfolding after_read after_write
keeps [] b never = (refl, refl)
keeps (Reading (Console register) ∷ uses) b never =
    let rest = keeps uses (after_read (Console register) b) never.1 in
    let here = (others_leave_the_key register b.console 0 0 0).2 (λ is. never.0 (ap Console is)) in
    (rest.0 ∙ here.0, rest.1 ∙ here.1)
keeps (Reading other ∷ uses) b never = keeps uses (after_read other b) never.1
keeps (Writing (Console register) word turn ∷ uses) b never =
    let rest = keeps uses (after_write (Console register) word turn b) never in
    let here = others_leave_the_key register b.console word turn b.delays.printer in
    (rest.0 ∙ here.0, rest.1 ∙ here.1)
keeps (Writing other word turn ∷ uses) b never = keeps uses (after_write other word turn b) never

pub wait_until_read : KeysWaitUntilRead
unfolding value_in
wait_until_read w key drives uses never = (
  status_shows_done (io_page_after_uses uses (after_key key (at_start w)).bus.io_page).console ∙ ap bit_of (keeps uses (after_key key (at_start w)).bus.io_page never).0,
  (keeps uses (after_key key (at_start w)).bus.io_page never).1,
)
