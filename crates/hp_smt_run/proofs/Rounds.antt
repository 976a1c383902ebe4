-- Rounds until a run is over make it the run of its script.
use Rattle.std.proofs.Common.{◌≡◌, ℕ, suc, ◌+◌, ◌-◌, ◌<◌, Bool, true, false, ltb, List, length, refl, ap, sym, subst, ◌∙◌, arith}
use Rattle.std.proofs.lemmas.Bool.{ltb-true, ltb-false}
use Rattle.std.proofs.lemmas.List.{length-map}
use Rattle.hp_actors.specs.Positions.{ops_of}
use Rattle.hp_model.specs.Lists.{numbers}
use Rattle.hp_model.specs.Processors.{present}
use Rattle.hp_smt.specs.Run.{SmtState, smt_start, after_smt_round, after_smt_rounds, is_over}
use Rattle.hp_smt_run.specs.Playing.{Setup, setup_of, ops_in, state_of, IsPlaying, IsRounded, IsPlayed}
use Rattle.hp_smt_run.specs.SiblingsOff.{SiblingsStayOff, SiblingsStayOffFor}
use Rattle.hp_smt_run.specs.declared.run.SmtRun.{SmtRun}
use Rattle.hp_smt_run.proofs.Further.{reach}
use Rattle.hp_smt_run.proofs.Kept.{Fits, Kept, reached_kept}
use Rattle.hp_smt_run.proofs.Moving.{round_further, no_further, furthest}

pub fits : {H : Type 0} (run : SmtRun H) → IsPlaying run → Fits run.smt.board.head (ops_in run)
fits run p = record {
  script = p.script;
  seats = let l = length-map run.actors.items ops_of in let r = p.room in omega (arith, l, r);
}

pub kept_of : {H : Type 0} (run : SmtRun H) → IsPlaying run → Kept run.smt.board.head (ops_in run) run.want (state_of run)
kept_of run p = reached_kept run.smt.board.head run.smt.threads (ops_in run) run.want (state_of run) (fits run p) p.reached

-- how far a run is from as far as it can get
abbrev pub left_of : {H : Type 0} → SmtRun H → ℕ
left_of run = furthest (ops_in run) - reach (state_of run)

pub nearer : {H : Type 0} (now after : SmtRun H) → IsPlaying now → is_over (ops_in now) (state_of now) ≡ false → IsRounded now after →
    left_of after < left_of now
nearer now after p goes r =
    let up = round_further now.smt.board.head now.smt.threads (ops_in now) now.want (state_of now) (fits now p) (kept_of now p) goes in
    let state = ap reach r.state_is in
    let most = no_further after.smt.board.head (ops_in after) after.want (state_of after) (kept_of after r.playing) in
    let same = ap (λ (s : Setup). furthest s.actors) r.same in
    omega (arith, up, state, most, same)

-- the seats of a round
abbrev round_of : Setup → List ℕ
round_of s = numbers (length (present s.head) + length s.actors + 1)

-- so many rounds made it, and none of them once it was over
pub record HasRounds {H : Type 0} (old now : SmtRun H) : Type 0 where
  pub playing : IsPlaying now
  pub same : setup_of now ≡ setup_of old
  pub count : ℕ
  pub now_is : state_of now ≡ after_smt_rounds old.smt.board.head old.smt.threads (ops_in old) old.want count
  pub no_sooner :
      (n : ℕ) → n < count →
      is_over (ops_in old) (after_smt_rounds old.smt.board.head old.smt.threads (ops_in old) old.want n) ≡ false
  pub off : SiblingsStayOffFor old.smt.board.head old.smt.threads (ops_in old) old.want count

pub no_round : {H : Type 0} (old : SmtRun H) → IsPlaying old → state_of old ≡ smt_start old.smt.board.head (ops_in old) → HasRounds old old
no_round old p start = record {
  playing = p;
  same = refl;
  count = 0;
  now_is = start;
  no_sooner = λ n below. absurd (omega (arith, below));
  off = λ n below. absurd (omega (arith, below));
}

pub next_round : {H : Type 0} (old now after : SmtRun H) → HasRounds old now → is_over (ops_in now) (state_of now) ≡ false →
    IsRounded now after → HasRounds old after
next_round old now after i goes r = record {
  playing = r.playing;
  same = r.same ∙ i.same;
  count = suc i.count;
  now_is =
      r.state_is
      ∙ (ap (λ (s : Setup). after_smt_round s.head s.threads s.actors s.want (state_of now)) i.same
      ∙ ap (after_smt_round old.smt.board.head old.smt.threads (ops_in old) old.want) i.now_is);
  no_sooner = λ n below. go n below (ltb n i.count) refl;
  off = λ n below. off n below (ltb n i.count) refl;
}
  where
    s : Setup
    s = setup_of old

    -- the round after those before, by what stays
    last : SiblingsStayOff s.head s.threads s.actors s.want (state_of now) (round_of s)
    last =
        subst (λ (z : Setup). SiblingsStayOff z.head z.threads z.actors z.want (state_of now) (round_of z)) i.same r.off

    off : (n : ℕ) → n < suc i.count → (b : Bool) → ltb n i.count ≡ b →
        SiblingsStayOff s.head s.threads s.actors s.want (after_smt_rounds s.head s.threads s.actors s.want n) (round_of s)
    off n below true e = i.off n (ltb-true n i.count e)
    off n below false e =
        let m = ltb-false n i.count e in
        let same : i.count ≡ n = omega (arith, below, m) in
        subst (λ z. SiblingsStayOff s.head s.threads s.actors s.want (after_smt_rounds s.head s.threads s.actors s.want z) (round_of s)) same
        (subst (λ (z : SmtState). SiblingsStayOff s.head s.threads s.actors s.want z (round_of s)) i.now_is last)

    go : (n : ℕ) → n < suc i.count → (b : Bool) → ltb n i.count ≡ b →
        is_over (ops_in old) (after_smt_rounds old.smt.board.head old.smt.threads (ops_in old) old.want n) ≡ false
    go n below true e = i.no_sooner n (ltb-true n i.count e)
    go n below false e =
        let m = ltb-false n i.count e in
        let same : n ≡ i.count = omega (arith, below, m) in
        ap (λ z. is_over (ops_in old) (after_smt_rounds old.smt.board.head old.smt.threads (ops_in old) old.want z)) same
        ∙ (ap (is_over (ops_in old)) (sym i.now_is)
        ∙ (ap (λ (s : Setup). is_over s.actors (state_of now)) (sym i.same) ∙ goes))

pub played_by : {H : Type 0} (old now : SmtRun H) → HasRounds old now → is_over (ops_in now) (state_of now) ≡ true → IsPlayed old now
played_by old now i over = record {
  playing = i.playing;
  same = i.same;
  is_run = record {
    rounds = i.count;
    over =
        ap (is_over (ops_in old)) (sym i.now_is) ∙ (ap (λ (s : Setup). is_over s.actors (state_of now)) (sym i.same) ∙ over);
    no_sooner = i.no_sooner;
    state_is = i.now_is;
  };
  off = i.off;
}
