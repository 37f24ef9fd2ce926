-- Document 02, A2: "a finished reading is one begun with no record taken, each call given the same design, the state that the call before
-- gave back and the same tables, changed by nobody else until the end record."
use Rattle.std.specs.Prelude.{◌≡◌, true, List, [], ◌∷◌, ℕ}
use Rattle.design.specs.declared.Design.{Design}
use Rattle.record_reading.specs.declared.HexReading.{HexReading}
use Rattle.record_reading.specs.ReadRecord.{hex_finished, HexSession, hex_verdict_on, hex_after}
use Rattle.storage.specs.Feeding.{kept_if}

-- The state with no record taken; its two bytes hold nothing and are 0.
abbrev pub no_record : HexReading
no_record = record { taken = 0; first = 0; second = 0 }

abbrev pub HexFinished : Design → HexSession → Type 0
HexFinished d s = hex_finished d s.state ≡ true

-- The reading after records that are fed one by one, all for the same design
unfoldable pub hex_feed : Design → HexSession → List (List ℕ) → HexSession
hex_feed d s [] = s
hex_feed d s (text ∷ texts) = hex_feed d (hex_after d s text) texts

-- Those of the records that are accepted, in order
unfoldable pub hex_accepted : Design → HexSession → List (List ℕ) → List (List ℕ)
hex_accepted d s [] = []
hex_accepted d s (text ∷ texts) = kept_if (hex_verdict_on d s text) text (hex_accepted d (hex_after d s text) texts)
