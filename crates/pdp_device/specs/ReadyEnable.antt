-- Ready, enable and the request of a device: PDP-11 Peripherals Handbook, KL11, PC11 and RK11 (when
-- a request appears and goes is [P]).
use Rattle.std.specs.Prelude.{ℕ, ◌+◌, ◌*◌, Bool, false, ◌&&◌}
use Rattle.pdp_word.specs.Bits.{bit_of}
use Rattle.pdp_word.specs.Mask.{is_set}
use Rattle.pdp_device.specs.Bits.{status_enable, status_ready}
use Rattle.pdp_device.specs.Request.{request_after}
use Rattle.pdp_device.specs.declared.ready_enable.ReadyEnable.{ReadyEnable}

-- the condition under which the device requests an interrupt: ready and enable [6.101] [6.102]
-- [6.103] [6.105]
abbrev pub wants_interrupt : ReadyEnable → Bool
wants_interrupt c = c.ready && c.enable

-- one change to this ready and this enable: the request goes by the condition before it and after
-- it [6.106]
abbrev pub ready_enable_with : Bool → Bool → ReadyEnable → ReadyEnable
ready_enable_with ready enable c =
    record {
      ready = ready;
      enable = enable;
      request = request_after (wants_interrupt c)
          (ready && enable) c.request;
    }

abbrev pub with_ready : Bool → ReadyEnable → ReadyEnable
with_ready ready c = ready_enable_with ready c.enable c

-- a word written to the status: bit 6 is enable, and nothing else is written [6.44] [6.46]
abbrev pub enable_written : ℕ → ReadyEnable → ReadyEnable
enable_written word c = ready_enable_with c.ready (is_set status_enable word) c

-- 7 ready, 6 enable [6.44] [6.46]
abbrev pub ready_enable_status : ReadyEnable → ℕ
ready_enable_status c = bit_of c.ready * status_ready + bit_of c.enable * status_enable

-- as RESET leaves it [6.102] [6.103] [6.105]
abbrev pub init_ready_enable : Bool → ReadyEnable
init_ready_enable ready = record { ready = ready; enable = false; request = false }

-- the request is served: it goes, and the condition stays [6.106]
abbrev pub ready_enable_served : ReadyEnable → ReadyEnable
ready_enable_served c = record c { request = false }
