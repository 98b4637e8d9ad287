mod Tolds
