-- The immediate that the decoder gives is a word, for every two halfwords.
use Rattle.std.specs.Prelude.{Option, Some, None}
use Prim.Native.Nat.{ℕ, ◌/◌, ◌%◌, ◌^◌, ◌<◌}
use mathlib.Core.List.{◌++◌}
use native.Mathlib.Omega.{arith}
use lib.Dec.{eqb}
use Rattle.word.proofs.Choices.{pick-each}
use Rattle.word.specs.Extend.{extend_of}
use Rattle.word.proofs.Extended.{extend-word}
use Rattle.processor_decode.specs.Format.{low_of, reg2_of, ldsr, stsr}
use Rattle.processor_decode.specs.SubOpcode.{sub_rows, extended_of}
use Rattle.processor_decode.specs.Opcode.{short_rows, branch_rows, long_rows, decode_of}
use Rattle.processor_decode.specs.declared.Instruction.{Instruction}
use Rattle.processor_decode.specs.declared.Instruction.TheVariants.{Register, Mul, Div, Mulu, Divu, Jmp, Immediate}
use Rattle.processor_decode.specs.declared.Instruction.TheVariants.{Setf, Cli, Sei, Trap, Reti, Halt, Ldsr, Stsr}
use Rattle.processor_decode.specs.declared.Instruction.TheVariants.{Bcond, Jr, Jal, Long, Load, In, Store, Out}
use Rattle.processor_decode.specs.declared.Instruction.TheVariants.{Illegal, Cmpf, Floating, Nintendo}
use Rattle.processor_laws.proofs.Lists.{Each, each_append, each_at}

-- an instruction whose immediate, where it gives a result, is a word
abbrev pub Fine : Instruction → Type 0
Fine (Register op reg1 reg2) = Unit {0}
Fine (Immediate op imm reg2) = imm < 2 ^ 32
Fine (Long op imm reg1 reg2) = imm < 2 ^ 32
Fine (Mul reg1 reg2) = Unit {0}
Fine (Mulu reg1 reg2) = Unit {0}
Fine (Div reg1 reg2) = Unit {0}
Fine (Divu reg1 reg2) = Unit {0}
Fine (Setf cond reg2) = Unit {0}
Fine (Load width disp reg1 reg2) = Unit {0}
Fine (In width disp reg1 reg2) = Unit {0}
Fine (Store width disp reg1 reg2) = Unit {0}
Fine (Out width disp reg1 reg2) = Unit {0}
Fine (Bcond cond disp) = Unit {0}
Fine (Jmp reg1) = Unit {0}
Fine (Jr disp) = Unit {0}
Fine (Jal disp) = Unit {0}
Fine (Trap vector) = Unit {0}
Fine Reti = Unit {0}
Fine Halt = Unit {0}
Fine (Ldsr reg2 id) = Unit {0}
Fine (Stsr id reg2) = Unit {0}
Fine Cli = Unit {0}
Fine Sei = Unit {0}
Fine Illegal = Unit {0}
Fine (Cmpf reg1 reg2) = Unit {0}
Fine (Floating op reg1 reg2) = Unit {0}
Fine (Nintendo op reg1 reg2) = Unit {0}

abbrev pub Found : Option Instruction → Type 0
Found (Some i) = Fine i
Found None = Unit {0}

module _ (f : ℕ) where
  five : extend_of 16 (low_of f) < 2 ^ 32
  five = extend-word 16 (f % 32) (omega arith) (omega arith)

  plain : low_of f < 2 ^ 32
  plain = omega arith

  ldsr-found : Found (ldsr f)
  ldsr-found = pick-each Found (eqb (low_of f) 24) None (Some (Ldsr (reg2_of f) (low_of f))) tt tt

  stsr-found : Found (stsr f)
  stsr-found = pick-each Found (eqb (low_of f) 24) None (Some (Stsr (low_of f) (reg2_of f))) tt tt

  short-found : Each Found (short_rows f)
  unfolding short_rows
  short-found = (
    tt,
    (
      tt,
      (
        tt,
        (
          tt,
          (
            tt,
            (
              tt,
              (
                tt,
                (
                  tt,
                  (
                    tt,
                    (
                      tt,
                      (
                        tt,
                        (
                          tt,
                          (
                            tt,
                            (
                              tt,
                              (
                                tt,
                                (
                                  tt,
                                  (
                                    five,
                                    (
                                      five,
                                      (
                                        tt,
                                        (
                                          five,
                                          (
                                            plain,
                                            (
                                              plain,
                                              (
                                                tt,
                                                (
                                                  plain,
                                                  (
                                                    tt,
                                                    (
                                                      tt,
                                                      (
                                                        tt,
                                                        (
                                                          tt,
                                                          (
                                                            ldsr-found,
                                                            (
                                                              stsr-found,
                                                              (
                                                                tt,
                                                                (tt, tt),
                                                              ),
                                                            ),
                                                          ),
                                                        ),
                                                      ),
                                                    ),
                                                  ),
                                                ),
                                              ),
                                            ),
                                          ),
                                        ),
                                      ),
                                    ),
                                  ),
                                ),
                              ),
                            ),
                          ),
                        ),
                      ),
                    ),
                  ),
                ),
              ),
            ),
          ),
        ),
      ),
    ),
  )

  branch-found : Each Found (branch_rows f)
  unfolding branch_rows
  branch-found = (tt, (tt, (tt, (tt, (tt, (tt, (tt, (tt, tt))))))))

-- no instruction of opcode 111110 has an immediate
extended-found : (f s : ℕ) → Found (extended_of f s)
unfolding sub_rows extended_of
extended-found f s =
    each_at Found (sub_rows f) (s / 1024) (Some Illegal)
    (tt, (tt, (tt, (tt, (tt, (tt, (tt, (tt, (tt, (tt, (tt, (tt, (tt, tt))))))))))))) tt

module _ (f s : ℕ) (h : s < 65536) where
  long-found : Each Found (long_rows f s)
  unfolding long_rows
  long-found =
      let e : extend_of 32768 s < 2 ^ 32 = extend-word 32768 s (omega arith) (omega arith) in
      let p : s < 2 ^ 32 = omega arith in (
        e,
        (
          e,
          (
            tt,
            (
              tt,
              (
                p,
                (
                  p,
                  (
                    p,
                    (
                      p,
                      (
                        tt,
                        (
                          tt,
                          (
                            tt,
                            (
                              tt,
                              (
                                tt,
                                (
                                  tt,
                                  (
                                    tt,
                                    (
                                      tt,
                                      (
                                        tt,
                                        (
                                          tt,
                                          (
                                            tt,
                                            (
                                              tt,
                                              (
                                                tt,
                                                (
                                                  tt,
                                                  (extended-found f s, (tt, tt)),
                                                ),
                                              ),
                                            ),
                                          ),
                                        ),
                                      ),
                                    ),
                                  ),
                                ),
                              ),
                            ),
                          ),
                        ),
                      ),
                    ),
                  ),
                ),
              ),
            ),
          ),
        ),
      )

  pub decoded-found : Found (decode_of f s)
  unfolding decode_of
  decoded-found =
      each_at Found (short_rows f ++ (branch_rows f ++ long_rows f s)) (f / 1024) None
      (each_append Found (short_rows f) (branch_rows f ++ long_rows f s) (short-found f)
      (each_append Found (branch_rows f) (long_rows f s) (branch-found f) long-found)) tt
