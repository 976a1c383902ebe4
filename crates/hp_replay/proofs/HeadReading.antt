-- A line behind those of the processors, at the stage of the head so far.
use Rattle.std.proofs.Common.{◌≡◌, ℕ, List, [], Option, Some, None, refl, sym, ap, subst, ◌∙◌}
use Rattle.hp_event.specs.declared.head.Sub.{Sub}
use Rattle.hp_event.specs.declared.head.Head.{Head}
use Rattle.hp_states.specs.declared.plan.Rule.{Rule}
use Rattle.hp_event.specs.declared.version.Version.{Version}
use Rattle.hp_replay.specs.declared.error.ReplayKind.TheVariants.{Header}
use Rattle.hp_replay.specs.declared.error.ReplayError.{ReplayError}
use Rattle.hp_replay.specs.declared.error.ReplayError.TheVariants.{Bad}
use Rattle.hp_replay.specs.HeadLines.{HeadLine, a_sub, a_rule, the_events, head_line_at}
use Rattle.hp_replay.specs.LinesLeft.{LinesLeft, Takes}
use Rattle.hp_replay.specs.Stages.{Stage, among_events, Step, goes, stops, next_sub, headed_step, ruled_step, step}
use Rattle.hp_replay.specs.Judged.{refused, at_end, Leads, Refuses}
use Rattle.hp_replay.specs.declared.error.ReplayKind.TheVariants.{Missing}
use Rattle.hp_replay.specs.Reading.{GoesOver, RefusesLine, RefusedFrom, head_stage, ended_head, head_step}
use Rattle.hp_replay.proofs.ReadingLaws.{goes_one, refused_here, none_here}

said_step : (v : Version) (head : Head) (last : Option Sub) (l : List ℕ) (said : HeadLine) → Some said ≡ head_line_at l → head_step head last said ≡ step v (head_stage head last) l
unfolding step
said_step v head None l said e = ap (headed_step head) e
said_step v head (Some sub) l said e = ap (ruled_step head sub) e

nothing_step : (v : Version) (head : Head) (last : Option Sub) (l : List ℕ) → None ≡ head_line_at l → stops Header ≡ step v (head_stage head last) l
unfolding step
nothing_step v head None l e = ap (headed_step head) e
nothing_step v head (Some sub) l e = ap (ruled_step head sub) e

sub_step : (head : Head) (last : Option Sub) (sub : Sub) → next_sub (ended_head head last) sub ≡ head_step head last (a_sub sub)
sub_step head None sub = refl
sub_step head (Some other) sub = refl

events_step : (head : Head) (last : Option Sub) → goes (among_events (ended_head head last) []) ≡ head_step head last the_events
events_step head None = refl
events_step head (Some other) = refl

missing : (head : Head) (last : Option Sub) (n : ℕ) → refused n Missing ≡ at_end (head_stage head last) n
missing head None n = refl
missing head (Some sub) n = refl

-- ---- of the lines that were gone over, and one line more

pub reads_sub : (v : Version) (a b c : LinesLeft) (n : ℕ) (l : List ℕ) (s : Stage) (head : Head) (last : Option Sub) (sub : Sub) (said : Option HeadLine) (t : Stage) →
    GoesOver v a s b (head_stage head last) → Takes b n l c → said ≡ head_line_at l → said ≡ Some (a_sub sub) → Leads (next_sub (ended_head head last) sub) t → GoesOver v a s c t
reads_sub v a b c n l s head last sub said t p q e f h =
    goes_one v a b c n l s (head_stage head last) t p q
    (subst (λ (x : Step). Leads x t) (sub_step head last sub ∙ said_step v head last l (a_sub sub) (sym f ∙ e)) h)

pub refuses_sub : (v : Version) (a b c : LinesLeft) (n : ℕ) (l : List ℕ) (s : Stage) (head : Head) (last : Option Sub) (sub : Sub) (said : Option HeadLine) (x : ReplayError) →
    GoesOver v a s b (head_stage head last) → Takes b n l c → said ≡ head_line_at l → said ≡ Some (a_sub sub) → RefusesLine (next_sub (ended_head head last) sub) n x → RefusedFrom v s a x
refuses_sub v a b c n l s head last sub said x p q e f h =
    refused_here v a b c n l s (head_stage head last) x p q
    (subst (λ (y : Step). RefusesLine y n x) (sub_step head last sub ∙ said_step v head last l (a_sub sub) (sym f ∙ e)) h)

pub reads_rule : (v : Version) (a b c : LinesLeft) (n : ℕ) (l : List ℕ) (s : Stage) (head : Head) (last : Option Sub) (rule : Rule) (said : Option HeadLine) (t : Stage) →
    GoesOver v a s b (head_stage head last) → Takes b n l c → said ≡ head_line_at l → said ≡ Some (a_rule rule) → Leads (head_step head last (a_rule rule)) t → GoesOver v a s c t
reads_rule v a b c n l s head last rule said t p q e f h =
    goes_one v a b c n l s (head_stage head last) t p q
    (subst (λ (x : Step). Leads x t) (said_step v head last l (a_rule rule) (sym f ∙ e)) h)

pub refuses_rule : (v : Version) (a b c : LinesLeft) (n : ℕ) (l : List ℕ) (s : Stage) (head : Head) (last : Option Sub) (rule : Rule) (said : Option HeadLine) (x : ReplayError) →
    GoesOver v a s b (head_stage head last) → Takes b n l c → said ≡ head_line_at l → said ≡ Some (a_rule rule) → RefusesLine (head_step head last (a_rule rule)) n x → RefusedFrom v s a x
refuses_rule v a b c n l s head last rule said x p q e f h =
    refused_here v a b c n l s (head_stage head last) x p q
    (subst (λ (y : Step). RefusesLine y n x) (said_step v head last l (a_rule rule) (sym f ∙ e)) h)

pub reads_events : (v : Version) (a b c : LinesLeft) (n : ℕ) (l : List ℕ) (s : Stage) (head : Head) (last : Option Sub) (all : Head) (said : Option HeadLine) →
    GoesOver v a s b (head_stage head last) → Takes b n l c → said ≡ head_line_at l → said ≡ Some the_events → all ≡ ended_head head last → GoesOver v a s c (among_events all [])
reads_events v a b c n l s head last all said p q e f h =
    goes_one v a b c n l s (head_stage head last) (among_events all []) p q
    (subst (λ (x : Step). Leads x (among_events all [])) (events_step head last ∙ said_step v head last l the_events (sym f ∙ e)) (ap (λ (y : Head). among_events y []) (sym h)))

pub refuses_head_line : (v : Version) (a b c : LinesLeft) (n : ℕ) (l : List ℕ) (s : Stage) (head : Head) (last : Option Sub) (said : Option HeadLine) (x : ReplayError) →
    GoesOver v a s b (head_stage head last) → Takes b n l c → said ≡ head_line_at l → said ≡ None → x ≡ Bad n Header → RefusedFrom v s a x
refuses_head_line v a b c n l s head last said x p q e f is =
    subst (RefusedFrom v s a) (sym is)
    (refused_here v a b c n l s (head_stage head last) (Bad n Header) p q
    (refl, subst (λ (y : Step). Refuses y Header) (nothing_step v head last l (sym f ∙ e)) refl))

pub misses_head_line : (v : Version) (a b : LinesLeft) (s : Stage) (head : Head) (last : Option Sub) (x : ReplayError) →
    GoesOver v a s b (head_stage head last) → b.lines ≡ [] → x ≡ Bad b.number Missing → RefusedFrom v s a x
misses_head_line v a b s head last x p none is = none_here v a b s (head_stage head last) x p none is (missing head last b.number)
