-- What each function gives back from C is chosen by the order of its rules (specs/Demand1, Order).
use Rattle.std.specs.Prelude.{ℕ, ◌≡◌}
use mathlib.Core.List.{List, [], ◌∷◌}
use Rattle.form.specs.Ruling.{too_short}
use Rattle.form.specs.Verdict.{rows}
use Rattle.tabled.specs.Figures.{figures_rules, figures_answer}
use Rattle.counted.specs.Counts.{judge_rules, judge_call}
use Rattle.charted.specs.Subtotal.{subtotal_rules, subtotal_call}
use Rattle.weighed.specs.Heaviest.{heaviest_rules_c, heaviest_call}
use Rattle.offered.specs.Defaults.{defaults_call}
use Rattle.handed.specs.Rows.{read_rules_c, read_call, write_rules_c, write_call}
use Rattle.door.specs.Door.{code_of}
use Rattle.door.proofs.Codes.{judge_bounded, subtotal_bounded, heaviest-bounded, figures-bounded, defaults-bounded, read-bounded, write_bounded}
use Rattle.promises.specs.Order.{ByOrder, Coded, by_code}

-- "It gets back 0; or it gets back 1,000 times the refusal number plus the place"
pub c_judge_by_order : (s counts : List ℕ) → ByOrder (judge_rules s counts) (Coded (code_of (judge_call s counts))) (code_of (judge_call s counts) ≡ 0)
c_judge_by_order s counts = by_code (judge_bounded s counts)

pub c_subtotal_by_order : (s : List ℕ) (code : ℕ) (room : List ℕ)
    → ByOrder (subtotal_rules s code room) (Coded (code_of (subtotal_call s code room))) (code_of (subtotal_call s code room) ≡ 0)
c_subtotal_by_order s code room = by_code (subtotal_bounded s room code)

pub c_heaviest_by_order : (s : List ℕ) (code : ℕ) (room : List ℕ)
    → ByOrder (heaviest_rules_c s code room) (Coded (code_of (heaviest_call s code room))) (code_of (heaviest_call s code room) ≡ 0)
c_heaviest_by_order s code room = by_code (heaviest-bounded s room code)

pub c_figures_by_order : (s room : List ℕ) → ByOrder (figures_rules s room) (Coded (code_of (figures_answer s room))) (code_of (figures_answer s room) ≡ 0)
c_figures_by_order s room = by_code (figures-bounded s room)

-- the default parameters: only the room can be too short
pub c_defaults_by_order : (room : List ℕ) → ByOrder (too_short 6 room ∷ []) (Coded (code_of (defaults_call room))) (code_of (defaults_call room) ≡ 0)
c_defaults_by_order room = by_code (defaults-bounded room)

pub c_read_by_order : (s rows counts : List ℕ) → ByOrder (read_rules_c s rows counts) (Coded (code_of (read_call s rows counts))) (code_of (read_call s rows counts) ≡ 0)
c_read_by_order s rows counts = by_code (read-bounded s rows counts)

pub c_write_by_order : (edition : ℕ) (rows lengths room size : List ℕ)
    → ByOrder (write_rules_c edition rows lengths room size) (Coded (code_of (write_call edition rows lengths room size))) (code_of (write_call edition rows lengths room size) ≡ 0)
c_write_by_order edition rows lengths room size = by_code (write_bounded edition rows lengths room size)
