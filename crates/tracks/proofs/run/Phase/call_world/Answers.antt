use Rattle.std.proofs.Common.{◌≡◌, rules, ap, ◌∙◌}
use Rattle.worlds.specs.Refusals.{looked}
use Rattle.grid.specs.Meanings.{Meaning}
use Rattle.tracks.proofs.Standing.{turns_clear, turns_look, turns_begin, turns_passed_alone}
use Rattle.tracks.proofs.run.Phase.call_world.Goals as goal

pub returns-in-Look : goal.returns-in-Look
returns-in-Look g c = λ m j s.
    let at = c.in-Look.at in
    let looked_at = c.look.ensures.answer ∙ ap (λ (n : Meaning). looked at (n at)) s.0.means in
    let told : c.map_err-answer.result ≡ m at = search rules in
    rw c.in-Look.is (turns_look m at j c.map_err-answer.result (λ fits. told) (c.look.ensures.history m j) s)

pub returns-in-Clear : goal.returns-in-Clear
returns-in-Clear g c = λ m j. rw c.in-Clear.is (turns_clear m j (c.clear.ensures.history m j))

pub returns-in-Begin : goal.returns-in-Begin
returns-in-Begin g c = λ m j. rw c.in-Begin.is (turns_begin m c.in-Begin.window j c.begin.ensures.start (c.begin.ensures.history m j))

pub returns-in-Row : goal.returns-in-Row
returns-in-Row g c = λ m j. turns_passed_alone m c.args.call j c.args.world c.in-Row.is
