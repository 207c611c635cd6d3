-- Cycles where no word of core answers.
use Rattle.std.proofs.Common.{◌≡◌, ℕ, Option, None, Some, length, refl}
use Rattle.pdp_unibus.specs.Handbook.BusWorld.{BusWorld, with_io_page}
use Rattle.pdp_unibus.specs.Handbook.Cycle.{device_slave, read_from, write_to, write_byte_to, value_at, told_at, left_by_read, left_by_write, left_by_byte, telling, told_read, told_write, told_byte_write, value_told, written_told}
use Rattle.pdp_io_page.specs.declared.register.Register.{Register}

pub device_read : (address : ℕ) (r : Option Register) (w : BusWorld)
    → read_from address (device_slave r) w ≡ record {
      value = value_at r (length w.drives) w.io_page;
      after = telling (told_read address (value_told r (length w.drives) w.io_page)) (with_io_page w (left_by_read r w.io_page));
    }
device_read address None w = refl
device_read address (Some r) w = refl

pub device_write : (address : ℕ) (r : Option Register) (word : ℕ) (w : BusWorld)
    → write_to address (device_slave r) word w ≡ record {
      value = told_at r;
      after = telling (told_write address (written_told r word)) (with_io_page w (left_by_write r word w.turn w.io_page));
    }
device_write address None word w = refl
device_write address (Some r) word w = refl

pub device_byte_write : (r : Option Register) (address byte : ℕ) (w : BusWorld)
    → write_byte_to (device_slave r) address byte w ≡ record {
      value = told_at r;
      after = telling (told_byte_write address (written_told r byte)) (with_io_page w (left_by_byte r (length w.drives) address byte w.turn w.io_page));
    }
device_byte_write None address byte w = refl
device_byte_write (Some r) address byte w = refl
